-- What each arm of the code shows of a number read, of `legal`, of `breaks` and of a run's fault.
-- By the tests that led there. Assumes nothing.
use Rattle.std.specs.Prelude.{◌≡◌, Bool, true, false, not, List, leb, eqb, Some, None}
use Rattle.std.proofs.Math.Path.{refl, sym, ap}
use Rattle.std.proofs.Common.{◌∙◌}
use Prim.Native.Nat.{ℕ, ◌+◌, ◌*◌, ◌≤◌, ◌<◌}
use native.Mathlib.Omega.{arith}
use borrow.Author.Tests.{le-leb, lt-leb, eq-eqb, ne_eqb}
use Rattle.laws.specs.Scan.{lowest}
use Rattle.laws.specs.Lemmas.Scan.{lowest_stop, lowest-on, lowest_end}
use Rattle.laws.specs.Reader.{bytes}
use Rattle.blocks.specs.Numbers.{number, top, Number}
use Rattle.blocks.specs.Lemmas.Numbers.{number_next}
use Rattle.names.specs.Names.{akaii_byte, ascii_byte}
use Rattle.rows.specs.declared.Width.{Width}
use Rattle.rows.specs.declared.Rule.{Rule}
use Rattle.rows.specs.declared.Rule.TheVariants.{From, Within, OrOff, OneOf, AtMost, Past, Akaii, Ascii}
use Rattle.rows.specs.declared.Run.{Run}
use Rattle.rows.specs.Rows.{size_of, byte_run, legal, Read, keeps, breaks, place_of, placed, run_fault}

-- ---- a number

-- a byte and the two after it
pub next_two : (b : ℕ → ℕ) (at : ℕ) {x y : ℕ} → x ≡ b (at + 1) → x < 256 → Number 2 b (at + 2) y → Number 3 b (at + 1) (x + 256 * y)
next_two b at e h n = let q : at + 1 + 1 ≡ at + 2 = omega arith in number_next 2 b (at + 1) e h (rw q n)

pub read_by : (header : List ℕ) (at : ℕ) {w u : Width} {r : ℕ} → w ≡ u → Number (size_of u) (bytes header) at r → r < 4294967296 → Read header at w r
read_by header at e n h = rw e (record { value = n.value; small = h })

-- ---- a rule; x, y and z are the rule's figures as numbers

module _ (header : List ℕ) (base size v : ℕ) {r : Rule} where
  pub from_below : {low high x : ℕ} → r ≡ From low high → x ≡ low → v < x → false ≡ legal header base size r v
  unfolding legal
  from_below {low} e p h = let q : v < low = omega arith in rw (e, lt-leb low v q)

  pub from_above : {low high x y : ℕ} → r ≡ From low high → x ≡ low → x ≤ v → y ≡ high → leb v y ≡ legal header base size r v
  unfolding legal
  from_above {low} e p h q = let k : low ≤ v = omega arith in rw (e, q, le-leb low v k)

  pub within_low : {n x : ℕ} → r ≡ Within n → x ≡ n → v ≤ x → true ≡ legal header base size r v
  unfolding legal
  within_low {n} e p h = let q : v ≤ n = omega arith in rw (e, le-leb v n q)

  pub within-high : {n x s : ℕ} → r ≡ Within n → x ≡ n → x < v → s ≡ top size → leb s (v + x) ≡ legal header base size r v
  unfolding legal
  within-high {n} e p h q = let k : n < v = omega arith in rw (e, q, p, lt-leb v n k)

  pub off_low : {n x : ℕ} → r ≡ OrOff n → x ≡ n → v ≤ x → true ≡ legal header base size r v
  unfolding legal
  off_low {n} e p h = let q : v ≤ n = omega arith in rw (e, le-leb v n q)

  pub off_high : {n x : ℕ} → r ≡ OrOff n → x ≡ n → x < v → eqb v 255 ≡ legal header base size r v
  unfolding legal
  off_high {n} e p h = let k : n < v = omega arith in rw (e, lt-leb v n k)

  pub one_first : {a b d x : ℕ} → r ≡ OneOf a b d → x ≡ a → v ≡ x → true ≡ legal header base size r v
  unfolding legal
  one_first {a} e p h = rw (e, eq-eqb v a (h ∙ p))

  pub one_second : {a b d x y : ℕ} → r ≡ OneOf a b d → x ≡ a → (v ≡ x → ⊥) → y ≡ b → v ≡ y → true ≡ legal header base size r v
  unfolding legal
  one_second {a} {b} e p h q k = rw (e, ne_eqb v a (λ z. h (z ∙ sym p)), eq-eqb v b (k ∙ q))

  pub one_third : {a b d x y z : ℕ} → r ≡ OneOf a b d → x ≡ a → (v ≡ x → ⊥) → y ≡ b → (v ≡ y → ⊥) → z ≡ d → eqb v z ≡ legal header base size r v
  unfolding legal
  one_third {a} {b} e p h q k o = rw (e, o, ne_eqb v a (λ z. h (z ∙ sym p)), ne_eqb v b (λ z. k (z ∙ sym q)))

  pub at_most : {other x y : ℕ} → r ≡ AtMost other → x ≡ other → y ≡ number 4 (bytes header) x → leb v y ≡ legal header base size r v
  unfolding legal
  at_most e p q = rw (e, q, p)

  pub past : {n x : ℕ} → r ≡ Past n → x ≡ n → eqb v (base + x) ≡ legal header base size r v
  unfolding legal
  past e p = rw (e, p)

  pub akaii : {t : Bool} → r ≡ Akaii → t ≡ akaii_byte v → t ≡ legal header base size r v
  unfolding legal
  akaii e p = rw (e, p)

  pub ascii : {t : Bool} → r ≡ Ascii → t ≡ ascii_byte v → t ≡ legal header base size r v
  unfolding legal
  ascii e p = rw (e, p)

-- ---- a run

module _ (header : List ℕ) (base : ℕ) (run : Run) where
  pub breaks_by : (j : ℕ) {at o v : ℕ} {b : Bool} → at ≡ run.at → o ≡ at + size_of run.width * j → v ≡ number (size_of run.width) (bytes header) o
      → b ≡ legal header base (size_of run.width) run.rule v → (t : Bool) → b ≡ t → not t ≡ breaks header base run j
  unfolding keeps
  breaks_by j p q e k t h = rw (← h, k, e, q, p) refl

  pub run_stop : {count j place : ℕ} → count ≡ run.count → Some j ≡ lowest (breaks header base run) 0 count → place ≡ place_of base run j → Some place ≡ run_fault header base run
  unfolding run_fault
  run_stop e s p = rw p (ap (placed base run) (rw e at s))

  pub run_clean : {count : ℕ} → count ≡ run.count → None ≡ lowest (breaks header base run) 0 count → None ≡ run_fault header base run
  unfolding run_fault
  run_clean e s = ap (placed base run) (rw e at s)

-- ---- a row of one byte

module _ (header : List ℕ) (base at : ℕ) (rule : Rule) where
  byte_by : {place v : ℕ} {b : Bool} → place ≡ at → v ≡ number 1 (bytes header) place → b ≡ legal header base 1 rule v → (t : Bool) → b ≡ t → breaks header base (byte_run at rule) 0 ≡ not t
  byte_by {place} p e k t h = let z : place ≡ place + 1 * 0 = omega arith in sym (breaks_by header base (byte_run at rule) 0 p z e k t h)

  pub byte_stop : {place v : ℕ} {b : Bool} → place ≡ at → v ≡ number 1 (bytes header) place → b ≡ legal header base 1 rule v → b ≡ false → Some (base + place) ≡ run_fault header base (byte_run at rule)
  byte_stop p e k h = run_stop header base (byte_run at rule) refl (sym (lowest_stop _ 0 1 (omega arith) (byte_by p e k false h))) (ap (λ (x : ℕ). base + x) p)

  pub byte_clean : {place v : ℕ} {b : Bool} → place ≡ at → v ≡ number 1 (bytes header) place → b ≡ legal header base 1 rule v → b ≡ true → None ≡ run_fault header base (byte_run at rule)
  byte_clean p e k h = run_clean header base (byte_run at rule) refl (sym (lowest-on _ 0 1 (omega arith) (byte_by p e k true h) ∙ lowest_end _ 1 1 (omega arith)))

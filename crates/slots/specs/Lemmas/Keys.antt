-- Names compared by keys: a name's area of 16 bytes as two numbers of eight bytes each, and the type.
-- Numbers of bytes below 256 are equal exactly if their bytes are, by induction on the width. Assumes nothing.
use Rattle.std.specs.Prelude.{◌≡◌, Bool, true, false, ◌&&◌, eqb}
use Rattle.std.proofs.Math.Path.{refl, ap₂}
use Rattle.std.proofs.Common.{sym, ap, ◌∙◌, add-zero, suc-add, zero-add, mul_assoc, arith, eqb-true, eq-eqb, ne_eqb}
use mathlib.Core.List.{List, ◌∷◌}
use Prim.Native.Nat.{ℕ, zero, suc, ◌+◌, ◌*◌, ◌<◌}
use Rattle.laws.specs.Truth.{both}
use Rattle.laws.specs.Lemmas.Truth.{both_true, true_both, same_truth}
use Rattle.laws.specs.Lists.{same}
use Rattle.laws.specs.Lemmas.Lists.{same_refl, same_true}
use Rattle.laws.specs.Reader.{tab}
use Rattle.layout.specs.declared.Layout.{Layout}
use Rattle.layout.specs.Layouts.{slot_offset}
use Rattle.blocks.specs.Numbers.{number, top}
use Rattle.blocks.specs.Lemmas.Numbers.{number_small}
use Rattle.view.specs.Disk.{has_name}
use Rattle.view.specs.Rules.{has_name_of}
use Rattle.image.specs.Image.{entry_at, view_of}
use Rattle.slots.specs.Keys.{Keyed, has_keys}
use Rattle.slots.specs.declared.Keys.{Keys}

-- past a test that passed, the other one decides
pub both_when : (a b : Bool) → b ≡ true → both a b ≡ a
both_when true b e = e
both_when false b e = refl

-- ---- numbers

-- a number's low bytes and its high ones
pub number_split : (m n : ℕ) (b : ℕ → ℕ) (at : ℕ) → number (m + n) b at ≡ number m b at + top m * number n b (at + m)
unfolding number
number_split zero n b at = rw (zero-add n, add-zero at) (omega arith)
number_split (suc m) n b at =
    let high : ℕ = number n b (suc at + m) in
    let e : at + suc m ≡ suc at + m = omega arith in
    rw (suc-add m n, e, number_split m n b (suc at)) (omega (arith, mul_assoc 256 (top m) high))

module _ (b c : ℕ → ℕ) where
  -- equal bytes are equal numbers
  tab-number : (width x y : ℕ) → tab b x width ≡ tab c y width → number width b x ≡ number width c y
  unfolding tab number
  tab-number zero x y e = refl
  tab-number (suc width) x y e =
      let low : b x ≡ c y = cc in
      let rest : tab b (suc x) width ≡ tab c (suc y) width = cc in
      ap₂ (λ (p q : ℕ). p + 256 * q) low (tab-number width (suc x) (suc y) rest)

  -- equal numbers of bytes are equal bytes
  number-tab : ((k : ℕ) → b k < 256) → ((k : ℕ) → c k < 256) → (width x y : ℕ) → number width b x ≡ number width c y → tab b x width ≡ tab c y width
  unfolding tab number
  number-tab p q zero x y e = refl
  number-tab p q (suc width) x y e =
      let low : b x ≡ c y = omega (arith, p x, q y) in
      let rest : number width b (suc x) ≡ number width c (suc y) = omega (arith, p x, q y) in
      ap₂ (λ (u : ℕ) (v : List ℕ). u ∷ v) low (number-tab p q width (suc x) (suc y) rest)

-- ---- names

-- 16 bytes are equal to 16 others exactly if their two keys are
keys_same : (b c : ℕ → ℕ) (x y : ℕ) {low high : ℕ} → ((k : ℕ) → b k < 256) → ((k : ℕ) → c k < 256) → low ≡ number 8 b x → high ≡ number 8 b (x + 8)
    → both (eqb (number 8 c y) low) (eqb (number 8 c (y + 8)) high) ≡ same (tab b x 16) (tab c y 16)
keys_same b c x y {low} {high} small less p q = same_truth _ _ to from
  where
    to : both (eqb (number 8 c y) low) (eqb (number 8 c (y + 8)) high) ≡ true → same (tab b x 16) (tab c y 16) ≡ true
    to e =
        let r = both_true (eqb (number 8 c y) low) (eqb (number 8 c (y + 8)) high) e in
        let n : number 16 b x ≡ number 16 c y =
        omega (arith, number_split 8 8 b x, number_split 8 8 c y, eqb-true (number 8 c y) low r.0, eqb-true (number 8 c (y + 8)) high r.1) in
        rw (number-tab b c small less 16 x y n) (same_refl (tab c y 16))

    from : same (tab b x 16) (tab c y 16) ≡ true → both (eqb (number 8 c y) low) (eqb (number 8 c (y + 8)) high) ≡ true
    from e =
        let n : number 16 b x ≡ number 16 c y = tab-number b c 16 x y (same_true (tab b x 16) (tab c y 16) e) in
        let m : number 8 b x + top 8 * number 8 b (x + 8) ≡ number 8 c y + top 8 * number 8 c (y + 8) =
        sym (number_split 8 8 b x) ∙ n ∙ number_split 8 8 c y in
        let u = number_small 8 b x small in
        let v = number_small 8 c y less in
        true_both (eqb (number 8 c y) low) (eqb (number 8 c (y + 8)) high) (eq-eqb (number 8 c y) low (omega arith)) (eq-eqb (number 8 c (y + 8)) high (omega arith))

-- equal areas have equal keys
pub same_keys : (b : ℕ → ℕ) (x y : ℕ) → ((k : ℕ) → b k < 256) → tab b x 16 ≡ tab b y 16 → (number 8 b y ≡ number 8 b x) × (number 8 b (y + 8) ≡ number 8 b (x + 8))
same_keys b x y small e =
    let k : both (eqb (number 8 b y) (number 8 b x)) (eqb (number 8 b (y + 8)) (number 8 b (x + 8))) ≡ true = keys_same b b x y small small refl refl ∙ rw e (same_refl (tab b y 16)) in
    let r = both_true (eqb (number 8 b y) (number 8 b x)) (eqb (number 8 b (y + 8)) (number 8 b (x + 8))) k in
    (eqb-true (number 8 b y) (number 8 b x) r.0, eqb-true (number 8 b (y + 8)) (number 8 b (x + 8)) r.1)

-- a slot has the keys of 16 bytes and a type exactly if these are its name's area and its type
pub keys_area : (l : Layout) (b c : ℕ → ℕ) (x t type : ℕ) {low high : ℕ} → ((k : ℕ) → b k < 256) → ((k : ℕ) → c k < 256) → low ≡ number 8 b x → high ≡ number 8 b (x + 8)
    → has_keys l c t low high type ≡ has_name (tab b x 16) type ((view_of l c).entry t)
unfolding has_keys has_name entry_at
keys_area l b c x t type small less p q = ap (λ (r : Bool). both r (eqb type (c (slot_offset l t + 16)))) (keys_same b c x (slot_offset l t) small less p q)

-- slot t has the keys and the type of slot s exactly if it has its name and type
pub keys_name : (l : Layout) (b : ℕ → ℕ) (s t : ℕ) {low high type : ℕ} {r : Bool} → ((k : ℕ) → b k < 256) → low ≡ number 8 b (slot_offset l s) → high ≡ number 8 b (slot_offset l s + 8)
    → type ≡ ((view_of l b).entry s).type → r ≡ has_keys l b t low high type → r ≡ has_name_of l (view_of l b) s t
unfolding has_name_of entry_at
keys_name l b s t {type = type} small p q y e =
    e ∙ keys_area l b b (slot_offset l s) t type small small p q ∙ ap (λ (n : ℕ). has_name (tab b (slot_offset l s) 16) n ((view_of l b).entry t)) y

-- the same where the code made the keys
pub keyed_name : (l : Layout) (b : ℕ → ℕ) (s t : ℕ) {k : Keys} {r : Bool} → Keyed b (slot_offset l s) ((view_of l b).entry s).type k → r ≡ has_keys l b t k.low k.high k.letter → r ≡ has_name_of l (view_of l b) s t
keyed_name l b s t k e = keys_name l b s t k.small k.low k.high k.letter e

-- keys of a slot, compared as the code compares them
eqb_swap : (x y : ℕ) → eqb x y ≡ eqb y x
eqb_swap x y = same_truth _ _ (λ e. eq-eqb y x (sym (eqb-true x y e))) (λ e. eq-eqb x y (sym (eqb-true y x e)))

and_both : (a b c : Bool) → (a && (b && c)) ≡ both (both a b) c
and_both true true c = refl
and_both true false c = refl
and_both false b c = refl

-- another first key decides alone
pub other_low : (l : Layout) (b : ℕ → ℕ) (s low high type : ℕ) {x at : ℕ} → x ≡ number 8 b at → at ≡ slot_offset l s → (x ≡ low → ⊥) → has_keys l b s low high type ≡ false
unfolding has_keys
other_low l b s low high type e p n = rw (ne_eqb (number 8 b (slot_offset l s)) low (λ q. n (rw p at e ∙ q))) refl

pub keys_told : (l : Layout) (b : ℕ → ℕ) (s : ℕ) (k o : Keys) → Keyed b (slot_offset l s) ((view_of l b).entry s).type k → (eqb k.low o.low && (eqb k.high o.high && eqb k.letter o.letter)) ≡ has_keys l b s o.low o.high o.letter
unfolding has_keys
keys_told l b s k o e =
    let low = eqb (number 8 b (slot_offset l s)) o.low in
    let high = eqb (number 8 b (slot_offset l s + 8)) o.high in
    let type = ((view_of l b).entry s).type in
    rw (e.low, e.high, e.letter) (and_both low high (eqb type o.letter) ∙ ap (both (both low high)) (eqb_swap type o.letter))

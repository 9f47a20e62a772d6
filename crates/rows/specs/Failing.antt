-- What a table's fault says: it is the lowest place where a number breaks its row's rule, and there is none exactly where every row is kept.
-- The rows of a table stand one after another, so that the first broken row gives less than any row after it could. Assumes nothing.
use Rattle.std.specs.Prelude.{◌≡◌, Bool, true, false, not, ◌⊎◌, ℕ, ◌+◌, ◌*◌, ◌≤◌, ◌<◌, leb, Some, None}
use Rattle.std.proofs.Math.Path.{refl}
use Rattle.std.proofs.Common.{sym, ◌∙◌, true≢false, inl, inr, arith, leb-true}
use mathlib.Core.List.{List, [], ◌∷◌}
use Rattle.laws.specs.Truth.{pick, both}
use Rattle.laws.specs.Lemmas.Truth.{both_true, clash}
use Rattle.laws.specs.Scan.{lowest, Lowest}
use Rattle.laws.specs.Lemmas.Scan.{nowhere→, at→, lowest_least}
use Rattle.rows.specs.declared.Width.{Width}
use Rattle.rows.specs.declared.Width.TheVariants.{One, Two, Four}
use Rattle.rows.specs.declared.Row.{Row}
use Rattle.rows.specs.declared.Run.{Run}
use Rattle.rows.specs.Rows.{size_of, run_of, keeps, breaks, place_of, placed, run_fault, row_fault, or_else, rows_fault}

-- ---- what is said

-- A number of a row breaks the row's rule, and this is its place.
pub record Broken (header : List ℕ) (base : ℕ) (row : Row) (place : ℕ) : Type 0 where
  pub index : ℕ
  pub inside : index < (run_of row).count
  pub broken : keeps header base (run_of row) index ≡ false
  pub here : place_of base (run_of row) index ≡ place

-- A row of a table is broken at this place.
abbrev pub Failing : List ℕ → ℕ → List Row → ℕ → Type 0
Failing header base [] place = ⊥
Failing header base (row ∷ rows) place = Broken header base row place ⊎ Failing header base rows place

-- Every number of a row keeps the row's rule.
abbrev pub Kept : List ℕ → ℕ → Row → Type 0
Kept header base row = (j : ℕ) → j < (run_of row).count → keeps header base (run_of row) j ≡ true

-- Every row of a table is kept.
abbrev pub AllKept : List ℕ → ℕ → List Row → Type 0
AllKept header base [] = Unit {0}
AllKept header base (row ∷ rows) = Kept header base row × AllKept header base rows

-- The lowest place with a property.
pub record Least (P : ℕ → Type 0) (place : ℕ) : Type 0 where
  pub holds : P place
  pub least : (other : ℕ) → P other → place ≤ other

-- Where a row ends.
abbrev pub end_of : Row → ℕ
end_of row = (run_of row).at + size_of (run_of row).width * (run_of row).count

-- The rows stand one after another, from `low` on and below `high`.
unfoldable pub in_order : ℕ → ℕ → List Row → Bool
in_order low high [] = leb low high
in_order low high (row ∷ rows) = both (leb low (run_of row).at) (in_order (end_of row) high rows)

-- ---- a row

size_least : (width : Width) (n : ℕ) → n ≤ size_of width * n
size_least One n = omega arith
size_least Two n = omega arith
size_least Four n = omega arith

place_in : (base at j n m : ℕ) (own : Bool) → j < n → n ≤ m → (base + at ≤ pick own (base + at + j) (base + at)) × (pick own (base + at + j) (base + at) < base + (at + m))
place_in base at j n m true h k = (omega arith, omega arith)
place_in base at j n m false h k = (omega arith, omega arith)

place_rises : (base at i j : ℕ) (own : Bool) → i ≤ j → pick own (base + at + i) (base + at) ≤ pick own (base + at + j) (base + at)
place_rises base at i j true h = omega arith
place_rises base at i j false h = omega arith

not_back : (b : Bool) → not b ≡ true → b ≡ false
not_back true e = absurd (true≢false (sym e))
not_back false e = refl

true_back : (b : Bool) → not b ≡ false → b ≡ true
true_back true e = refl
true_back false e = absurd (true≢false e)

-- there is a place, or there is none
pub never : {place : ℕ} → Some place ≡ None → ⊥
never e = let o : ◌≡◌ {A = ℕ} 0 1 = cc in omega arith

pub none_of : (f g : Lowest) → or_else f g ≡ None → (f ≡ None) × (g ≡ None)
none_of (Some place) g e = absurd (never e)
none_of None g e = (refl, e)

module _ (header : List ℕ) (base : ℕ) (row : Row) where
  -- a broken row's place lies in the row
  broken_in : (place : ℕ) → Broken header base row place → (base + (run_of row).at ≤ place) × (place < base + end_of row)
  broken_in place b =
      let run : Run = run_of row in
      let q = place_in base run.at b.index run.count (size_of run.width * run.count) run.own b.inside (size_least run.width run.count) in
      (omega (arith, b.here), omega (arith, b.here))

  found : (place : ℕ) (w : Lowest) → lowest (breaks header base (run_of row)) 0 (run_of row).count ≡ w → placed base (run_of row) w ≡ Some place
      → Least (Broken header base row) place
  found place None e p = absurd (never (sym p))
  found place (Some i) e p =
      let run : Run = run_of row in
      let g = at→ (breaks header base run) 0 run.count i e in
      let o : place_of base run i ≡ place = cc in
      record {
        holds = record { index = i; inside = omega arith; broken = not_back (keeps header base run i) g.2; here = o };
        least = λ other b.
            let k : i ≤ b.index = lowest_least (breaks header base run) 0 run.count i e b.index (omega arith) (omega (arith, b.inside)) (rw b.broken refl) in
            let u = place_rises base run.at i b.index run.own k in
            omega (arith, o, b.here);
      }

  clean : (w : Lowest) → lowest (breaks header base (run_of row)) 0 (run_of row).count ≡ w → placed base (run_of row) w ≡ None → Kept header base row
  clean None e p j h = true_back (keeps header base (run_of row) j) (nowhere→ (breaks header base (run_of row)) 0 (run_of row).count e j (omega arith) (omega arith))
  clean (Some i) e p j h = absurd (never p)

  -- a row's fault is its lowest broken place
  pub row_least : (place : ℕ) → row_fault header base row ≡ Some place → Least (Broken header base row) place
  unfolding run_fault
  row_least place e = found place (lowest (breaks header base (run_of row)) 0 (run_of row).count) refl e

  pub row→kept : row_fault header base row ≡ None → Kept header base row
  unfolding run_fault
  row→kept e = clean (lowest (breaks header base (run_of row)) 0 (run_of row).count) refl e

-- ---- a table

-- what rows in order say of the first
order_first : (low high : ℕ) (row : Row) (rows : List Row) → in_order low high (row ∷ rows) ≡ true → (low ≤ (run_of row).at) × (in_order (end_of row) high rows ≡ true)
unfolding in_order
order_first low high row rows o = let d = both_true (leb low (run_of row).at) _ o in (leb-true low (run_of row).at d.0, d.1)

order_le : (low high : ℕ) (rows : List Row) → in_order low high rows ≡ true → low ≤ high
unfolding in_order
order_le low high [] o = leb-true low high o
order_le low high (row ∷ rows) o = let d = order_first low high row rows o in omega (arith, order_le (end_of row) high rows d.1)

module _ (header : List ℕ) (base : ℕ) where
  -- where a table can be broken at all
  pub failing_in : (rows : List Row) (low high : ℕ) → in_order low high rows ≡ true → (place : ℕ) → Failing header base rows place → (base + low ≤ place) × (place < base + high)
  failing_in [] low high o place f = absurd f
  failing_in (row ∷ rows) low high o place (inl b) =
      let d = order_first low high row rows o in
      let g = broken_in header base row place b in
      let l = order_le (end_of row) high rows d.1 in
      (omega arith, omega arith)
  failing_in (row ∷ rows) low high o place (inr f) =
      let d = order_first low high row rows o in
      let g = failing_in rows (end_of row) high d.1 place f in
      (omega arith, omega arith)

  first_fault_of : (row : Row) (rows : List Row) (low high place : ℕ) → in_order low high (row ∷ rows) ≡ true → (w : Lowest) → row_fault header base row ≡ w
      → or_else w (rows_fault header base rows) ≡ Some place → (rows_fault header base rows ≡ Some place → Least (Failing header base rows) place)
      → Least (Failing header base (row ∷ rows)) place
  first_fault_of row rows low high place o (Some x) e p ih =
      let q : x ≡ place = cc in
      let l : Least (Broken header base row) place = row_least header base row place (e ∙ p) in
      record {
        holds = inl l.holds;
        least = λ other f. from l other f;
      }
    where
      from : Least (Broken header base row) place → (other : ℕ) → Broken header base row other ⊎ Failing header base rows other → place ≤ other
      from l other (inl b) = l.least other b
      from l other (inr f) =
          let d = order_first low high row rows o in
          let g = broken_in header base row place l.holds in
          let u = failing_in rows (end_of row) high d.1 other f in
          omega arith
  first_fault_of row rows low high place o None e p ih = record { holds = inr (ih p).holds; least = λ other f. from (ih p) other f }
    where
      from : Least (Failing header base rows) place → (other : ℕ) → Broken header base row other ⊎ Failing header base rows other → place ≤ other
      from l other (inl b) = absurd (clash (row→kept header base row e b.index b.inside) b.broken)
      from l other (inr f) = l.least other f

  -- The place that a table gives is the lowest at which it is broken.
  pub lowest_failing : (rows : List Row) (low high place : ℕ) → in_order low high rows ≡ true → rows_fault header base rows ≡ Some place → Least (Failing header base rows) place
  unfolding rows_fault
  lowest_failing [] low high place o e = absurd (never (sym e))
  lowest_failing (row ∷ rows) low high place o e =
      first_fault_of row rows low high place o (row_fault header base row) refl e (λ f. lowest_failing rows (end_of row) high place (order_first low high row rows o).1 f)

  -- rows that are kept are broken nowhere
  pub kept_nowhere : (rows : List Row) → AllKept header base rows → (place : ℕ) → Failing header base rows place → ⊥
  kept_nowhere [] k place f = f
  kept_nowhere (row ∷ rows) k place (inl b) = clash (k.0 b.index b.inside) b.broken
  kept_nowhere (row ∷ rows) k place (inr f) = kept_nowhere rows k.1 place f

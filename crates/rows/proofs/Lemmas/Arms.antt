-- What a search of a run's numbers shows of the run's fault, and a row in hand of its table's.
-- By the first number that breaks the rule, and by what the rows from row i on give. Assumes nothing.
use Rattle.std.specs.Prelude.{◌≡◌, true, false, List, get_or, drop, Option, Some, None, MatchOption, IsSomeAnd, is_some}
use Rattle.std.proofs.Math.Path.{refl, sym, ap}
use Rattle.std.proofs.Common.{◌∙◌, true≢false, drop_of_length-le}
use Prim.Native.Nat.{ℕ, ◌+◌, ◌≤◌, ◌<◌}
use Rattle.std.proofs.Math.Numerals.{add-one}
use native.Mathlib.Omega.{arith}
use Rattle.std.proofs.Math.ListN.{length}
use Rattle.std.proofs.Math.Seq.{drop-cons}
use Rattle.rows.specs.declared.Row.{Row}
use Rattle.rows.specs.Rows.{breaks, place_of, run_fault, row_fault, or_else, rows_fault}
use Rattle.rows.specs.Lemmas.Arms.{run_stop, run_clean}
use Rattle.rows.specs.declared.Row.TheVariants.{Only}
use Rattle.laws.specs.Scan.{Lowest}
use Rattle.laws.specs.Lemmas.Scan.{→nowhere, lowest_is}
use Rattle.rows.specs.declared.Run.{Run}

-- ---- a run: what a search of its numbers found, and the place of that

module _ (header : List ℕ) (base : ℕ) (run : Run) where
  pub run_found : {count : ℕ} → count ≡ run.count → (found place : Option ℕ)
      → MatchOption found ((j : ℕ) → 0 ≤ j → j < count → breaks header base run j ≡ false)
      (λ i. (0 ≤ i) × (i < count) × (breaks header base run i ≡ true) × ((j : ℕ) → 0 ≤ j → j < i → breaks header base run j ≡ false))
      → MatchOption found (place ≡ None) (λ i. IsSomeAnd place (λ p. p ≡ place_of base run i)) → place ≡ run_fault header base run
  run_found {count} e None place h m =
      m ∙ run_clean header base run e (sym (→nowhere (breaks header base run) 0 count (λ j a b. h j a (omega arith))))
  run_found {count} e (Some i) None h m = elim m [ ]
  run_found {count} e (Some i) (Some p) h m =
      run_stop header base run e (sym (lowest_is (breaks header base run) 0 count i h.0 (omega (arith, h.1)) h.2 h.3)) m

-- ---- the first of two places: the one there is, or the other

pub stopped : (f g : Lowest) → is_some f ≡ true → f ≡ or_else f g
stopped (Some place) g t = refl
stopped None g t = absurd (true≢false (sym t))

pub passed : (f g : Lowest) → is_some f ≡ false → or_else f g ≡ g
passed (Some place) g t = absurd (true≢false t)
passed None g t = refl

-- ---- a table: what the rows from row i on give is what all of them give

-- what an array of rows has past its end
abbrev pub no_row : Row
no_row = Only 0 0

abbrev pub RestOf : List ℕ → ℕ → List Row → ℕ → Type 0
RestOf header base rows i = rows_fault header base (drop i rows) ≡ rows_fault header base rows

module _ (header : List ℕ) (base : ℕ) (rows : List Row) (i : ℕ) where
  rest_row : i < length rows → rows_fault header base (drop i rows) ≡ or_else (row_fault header base (get_or rows i no_row)) (rows_fault header base (drop (i + 1) rows))
  unfolding rows_fault
  rest_row h = rw (drop-cons rows i no_row h, add-one i, rows_fault) refl

  -- the rest of the table is known once the row in hand is
  rest_by : {row : Row} {f : Lowest} → RestOf header base rows i → i < length rows → row ≡ get_or rows i no_row → f ≡ row_fault header base row
      → or_else f (rows_fault header base (drop (i + 1) rows)) ≡ rows_fault header base rows
  rest_by v h e k =
      ap (λ (x : Lowest). or_else x (rows_fault header base (drop (i + 1) rows))) (k ∙ ap (row_fault header base) e) ∙ sym (rest_row h) ∙ v

  pub rows_stop : {row : Row} (f : Lowest) → RestOf header base rows i → i < length rows → row ≡ get_or rows i no_row
      → f ≡ row_fault header base row → is_some f ≡ true → f ≡ rows_fault header base rows
  rows_stop f v h e k t = stopped f _ t ∙ rest_by v h e k

  pub rows_on : {row : Row} (f : Lowest) → RestOf header base rows i → i < length rows → row ≡ get_or rows i no_row
      → f ≡ row_fault header base row → is_some f ≡ false → RestOf header base rows (i + 1)
  rows_on f v h e k t = sym (passed f _ t) ∙ rest_by v h e k

  pub rows_clean : RestOf header base rows i → length rows ≤ i → None ≡ rows_fault header base rows
  unfolding rows_fault
  rows_clean v h = rw (drop_of_length-le rows h) at v

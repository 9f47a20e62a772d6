-- What a table's fault says: it is the lowest place where a number breaks its row's rule, and there is none exactly where every row is kept.
-- The rows of a table stand one after another, so that the first broken row gives less than any row after it could. Assumes nothing.
use Rattle.std.specs.Prelude.{◌≡◌, ◌↔◌, ℕ, None}
use Rattle.std.proofs.Math.Path.{refl, ap}
use Rattle.std.proofs.Common.{arith}
use mathlib.Core.List.{List, [], ◌∷◌}
use Rattle.laws.specs.Lemmas.Scan.{→nowhere}
use Rattle.rows.specs.declared.Row.{Row}
use Rattle.rows.specs.Rows.{run_of, breaks, placed, run_fault, row_fault, rows_fault}
use Rattle.rows.specs.Failing.{Kept, AllKept, none_of, row→kept}

-- ---- a row

module _ (header : List ℕ) (base : ℕ) (row : Row) where
  kept→row : Kept header base row → row_fault header base row ≡ None
  unfolding run_fault
  kept→row k = ap (placed base (run_of row)) (→nowhere (breaks header base (run_of row)) 0 (run_of row).count (λ j p q. rw (k j (omega arith)) refl))

-- ---- a table

module _ (header : List ℕ) (base : ℕ) where
  no_fault : (rows : List Row) → rows_fault header base rows ≡ None → AllKept header base rows
  unfolding rows_fault
  no_fault [] e = tt
  no_fault (row ∷ rows) e =
      let d = none_of (row_fault header base row) (rows_fault header base rows) e in
      (row→kept header base row d.0, no_fault rows d.1)

  all_kept : (rows : List Row) → AllKept header base rows → rows_fault header base rows ≡ None
  unfolding rows_fault
  all_kept [] k = refl
  all_kept (row ∷ rows) k = rw (kept→row header base row k.0) (all_kept rows k.1)

  -- A table gives no place exactly where every row is kept.
  pub faultless : (rows : List Row) → (rows_fault header base rows ≡ None) ↔ AllKept header base rows
  faultless rows = (no_fault rows, all_kept rows)

-- What a part in hand shows of a program's parts.
-- By what the parts from it on give. Assumes nothing.
use Rattle.std.specs.Prelude.{◌≡◌, List, ℕ, ◌+◌, ◌-◌, ◌*◌, ◌<◌, take, drop, None, true, false, is_some}
use Rattle.std.proofs.Math.Path.{refl, sym, ap}
use Rattle.std.proofs.Common.{◌∙◌}
use native.Mathlib.Omega.{arith}
use Rattle.laws.specs.Lemmas.Scan.{over_next}
use Rattle.laws.specs.Splice.{part}
use Rattle.rows.proofs.Lemmas.Arms.{stopped, passed}
use Rattle.rows.specs.Rows.{or_else, rows_fault}
use Rattle.headers.specs.declared.Table.{Table}
use Rattle.headers.specs.Tables.{rows_of}
use Rattle.program.specs.Program.{table_of, part_fault, parts_fault}
use Rattle.program.specs.Lemmas.Arms.{RestOf}
use Rattle.laws.specs.Scan.{Lowest}

-- ---- the loop

module _ (file : List ℕ) (n k : ℕ) (f : Lowest) {at end : ℕ} {table : Table} (v : RestOf file n k) (h : k < n) (p : at ≡ 150 * k) (q : end ≡ at + 150)
    (e : table ≡ table_of k) (w : f ≡ rows_fault (take (end - at) (drop at file)) at (rows_of table)) where
  part_is : f ≡ part_fault file k
  unfolding part_fault part
  part_is = let y : end - at ≡ 150 = omega arith in rw (w, y, p, e) refl

  rest_by : or_else f (parts_fault file (k + 1) (n - (k + 1))) ≡ parts_fault file 0 n
  unfolding parts_fault
  rest_by = ap (λ (x : Lowest). or_else x (parts_fault file (k + 1) (n - (k + 1)))) part_is ∙ sym (over_next (λ i rest. or_else (part_fault file i) rest) None k n h) ∙ v

  pub part_stop : is_some f ≡ true → f ≡ parts_fault file 0 n
  part_stop t = stopped f _ t ∙ rest_by

  pub part-on : is_some f ≡ false → RestOf file n (k + 1)
  part-on t = sym (passed f _ t) ∙ rest_by

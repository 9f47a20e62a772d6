-- Blocks that a function collected in an array, lent on as a part of it.
-- The collector says what the part is and how long, so it lies in the array. Assumes nothing.
use Rattle.std.specs.Prelude.{◌≡◌, List, ℕ, ◌-◌, ◌≤◌, length, take, drop}
use Rattle.std.proofs.Common.{ap, arith}
use Rattle.laws.specs.Lemmas.Padded.{length-padded, take-padded}
use Rattle.map.specs.declared.collection.Blocks.{Blocks}
use Rattle.map.specs.Map.{Collected}

-- the part ends in the array
pub count_fits : (all : List ℕ) (r : Blocks) → Collected all r → r.count ≤ length r.list
count_fits all r c = omega (arith, c.few, c.count, ap length c.list, length-padded all 1600 c.few)

-- and holds the blocks
pub lent-all : (all : List ℕ) (r : Blocks) → Collected all r → take (r.count - 0) (drop 0 r.list) ≡ all
lent-all all r c = let z : r.count - 0 ≡ length all = omega (arith, c.count) in rw (z, c.list) (take-padded all 1600)

-- so does the list that `as_slice` lends
pub slice-all : (all : List ℕ) (r : Blocks) → Collected all r → take r.count r.list ≡ all
slice-all all r c = rw (c.count, c.list) (take-padded all 1600)

-- A loop that collects blocks in an array: were those still to come written after those in it, it would hold all of them.
-- A write of blocks stores the first and then the others, and none that is to come leaves the array. Assumes nothing.
use Rattle.std.specs.Prelude.{◌≡◌, ◌∷◌, ℕ, suc, ◌+◌, ◌-◌, ◌<◌, take}
use Rattle.std.proofs.Common.{ap, arith}
use Rattle.map.specs.Map.{free_from}
use Rattle.map.specs.Lemmas.Free.{free_stop, free_on}

-- ---- the free blocks still to come, from block i on, where k of those wanted are there

module _ (m : ℕ → ℕ) (i n k wanted : ℕ) where
  pub wanted_stop : i < n → k < wanted → m i ≡ 0
      → take (wanted - k) (free_from m i (n - i)) ≡ i ∷ take (wanted - (k + 1)) (free_from m (i + 1) (n - (i + 1)))
  wanted_stop h w e = let z : wanted - k ≡ suc (wanted - (k + 1)) = omega arith in rw (z, free_stop m i n h e)

  pub wanted_on : i < n → (m i ≡ 0 → ⊥) → take (wanted - k) (free_from m i (n - i)) ≡ take (wanted - k) (free_from m (i + 1) (n - (i + 1)))
  wanted_on h e = ap (take (wanted - k)) (free_on m i n h e)

-- What a page costs that grew by a run: the links to the run's block, and one run more.
-- From its first byte on a page has whole blocks before each run, so that no block is met twice. Assumes nothing.
use Rattle.std.specs.Prelude.{ℕ, zero, suc, ◌+◌, ◌/◌, ◌≤◌}
use Rattle.std.proofs.Common.{arith}
use Rattle.laws.specs.Lemmas.Scan.{count_split}
use Rattle.pages.specs.Cost.{holds, cost_of}

-- the links to a page's last byte are at most those to the byte after it
pub cost_low : (blocks offset size : ℕ) → (cost_of blocks offset size).links ≤ (offset + size) / 1024
unfolding cost_of
cost_low blocks offset zero = omega arith
cost_low blocks offset (suc n) = omega arith

-- a page has no more runs than its file has blocks
pub cost_few : (blocks offset size : ℕ) → (cost_of blocks offset size).runs ≤ blocks
unfolding cost_of
cost_few blocks offset zero = omega arith
cost_few blocks offset (suc n) = omega (arith, count_split (holds offset (suc n)) 0 blocks)

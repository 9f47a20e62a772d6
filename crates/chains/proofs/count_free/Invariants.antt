-- `chains::count_free` meets its contract: the free blocks counted and those of the blocks left are all of them.
-- Each turn is one law of a count. Assumes nothing.
use Rattle.std.proofs.Common.{◌≡◌, Bool, List, ℕ, ◌+◌, ◌-◌, ◌≤◌, eqb}
use Rattle.laws.specs.Reader.{bytes}
use Rattle.laws.specs.Scan.{count}
use Rattle.map.specs.Map.{map_at}
use Rattle.chains.proofs.count_free.Given as goal

abbrev pub is_free : List ℕ → ℕ → Bool
is_free head block = eqb (map_at (bytes head) block) 0

abbrev pub invariant-loop-block : goal.invariant-loop-block
invariant-loop-block l = (l.free ≤ l.block) × (l.free + count (is_free l.head.bytes.now) l.block (l.block-end - l.block) ≡ count (is_free l.head.bytes.now) l.initial.block (l.block-end - l.initial.block))

-- `map::nth_block` meets its contract: after k turns the block in hand is the k-th of the chain, and k links more are counted.
-- A faultless chain's blocks are data blocks, so each has a map value to read. Assumes nothing.
use Rattle.std.proofs.Common.{◌≡◌, ◌+◌, get_or}
use Rattle.laws.specs.Reader.{bytes}
use Rattle.map.specs.Map.{map_at, chain}
use Rattle.map.proofs.nth_block.Given as goal

abbrev pub invariant-loop : goal.invariant-loop
invariant-loop l = (l.block ≡ get_or (chain (map_at (bytes l.image)) l.links l.start) l.counter 0) × (l.followed ≡ l.initial.followed + l.counter)

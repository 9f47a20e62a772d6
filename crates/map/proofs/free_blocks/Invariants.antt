-- `map::free_blocks` meets its contract: the blocks collected and those still wanted of the rest are those wanted of the whole.
-- Each block passed is free, and collected, or it isn't; the loop stops where none is left or none is wanted. Assumes nothing.
use Rattle.std.proofs.Common.{◌+◌, ◌-◌, ◌≤◌, take, replicate}
use Rattle.laws.specs.Reader.{bytes}
use Rattle.map.specs.Lemmas.Collect.{Collecting}
use Rattle.map.specs.Map.{map_at, free_from}
use Rattle.map.proofs.free_blocks.Given as goal

abbrev pub invariant-loop-block : goal.invariant-loop-block
invariant-loop-block l =
    (l.blocks.1.0 + l.fn.layout.first ≤ l.block) × (l.blocks.1.0 ≤ l.wanted)
    × Collecting (replicate 1600 0) (take l.wanted (free_from (map_at (bytes l.image)) l.fn.layout.first (l.fn.layout.blocks - l.fn.layout.first))) l.blocks.0 (take (l.wanted - l.blocks.1.0) (free_from (map_at (bytes l.image)) l.block (l.fn.layout.blocks - l.block))) l.blocks.1.0

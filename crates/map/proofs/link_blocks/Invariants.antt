-- `map::link_blocks` meets its contract: linking what remains of the blocks makes what linking all of them makes.
-- Each turn sets one map value, as the definition does at each block. Assumes nothing.
use Rattle.std.proofs.Common.{◌≡◌, drop}
use Rattle.map.specs.Map.{link_blocks}
use Rattle.map.proofs.link_blocks.Given as goal

abbrev pub invariant-loop-k : goal.invariant-loop-k
invariant-loop-k l = link_blocks l.image (drop l.k l.chosen) l.layout.mark ≡ link_blocks l.initial.image l.chosen l.layout.mark

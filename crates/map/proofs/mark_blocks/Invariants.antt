-- `map::mark_blocks` meets its contract: marking what remains of the blocks makes what marking all of them makes.
-- Each turn marks one block, as the definition does at each. Assumes nothing.
use Rattle.std.proofs.Common.{◌≡◌, drop}
use Rattle.map.specs.Map.{marked}
use Rattle.map.proofs.mark_blocks.Given as goal

abbrev pub invariant-loop-block : goal.invariant-loop-block
invariant-loop-block l = marked l.marks (drop l.block-index l.list) ≡ marked l.initial.marks l.list

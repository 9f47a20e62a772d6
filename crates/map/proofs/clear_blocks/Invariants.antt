-- `map::clear_blocks` meets its contract: freeing what remains of the blocks makes what freeing all of them makes.
-- Each turn sets one map value to 0, as the definition does at each block. Assumes nothing.
use Rattle.std.proofs.Common.{◌≡◌, drop}
use Rattle.map.specs.Map.{set_all}
use Rattle.map.proofs.clear_blocks.Given as goal

abbrev pub invariant-loop-block : goal.invariant-loop-block
invariant-loop-block l = set_all l.image (drop l.block-index l.freed) 0 ≡ set_all l.initial.image l.freed 0

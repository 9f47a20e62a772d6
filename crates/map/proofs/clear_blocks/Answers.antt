-- `map::clear_blocks` meets its contract: freeing what remains of the blocks makes what freeing all of them makes.
-- Each turn sets one map value to 0, as the definition does at each block. Assumes nothing.
use Rattle.std.proofs.Common.{sym, ◌∙◌, arith}
use Rattle.map.specs.Lemmas.Linking.{nth_in, set-all_end, set-all_next}
use Rattle.map.proofs.clear_blocks.Goals as goal

pub set_map-requires : goal.set_map-requires
set_map-requires c = omega (arith, c.from.ensures, c.requires.1 _ (nth_in c.args.freed.now c.loop-block.block-index (omega arith)))

pub loop-block-preserved : goal.loop-block-preserved
loop-block-preserved c =
    let l = c.loop-block in
    rw (c.set_map.ensures, c.from.ensures) (sym (set-all_next l.image c.args.freed.now 0 l.block-index (omega arith)) ∙ l.invariant)

pub returns : goal.returns
returns c =
    let l = c.loop-block in
    sym (set-all_end l.image c.args.freed.now 0 l.block-index (omega arith)) ∙ l.invariant

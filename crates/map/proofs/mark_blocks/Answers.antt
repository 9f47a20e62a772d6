-- `map::mark_blocks` meets its contract: marking what remains of the blocks makes what marking all of them makes.
-- Each turn marks one block, as the definition does at each. Assumes nothing.
use Rattle.std.proofs.Common.{sym, ◌∙◌, arith}
use Rattle.map.specs.Lemmas.Linking.{nth_in}
use Rattle.map.specs.Lemmas.Marks.{marked_end, marked_next}
use Rattle.map.proofs.mark_blocks.Goals as goal

pub bounds-marks-from : goal.bounds-marks-from
bounds-marks-from c = rw c.from.ensures (c.requires _ (nth_in c.args.list.now c.loop-block.block-index (omega arith)))

pub loop-block-preserved : goal.loop-block-preserved
loop-block-preserved c =
    let l = c.loop-block in
    rw c.from.ensures (sym (marked_next l.marks c.args.list.now l.block-index (omega arith)) ∙ l.invariant)

pub returns : goal.returns
returns c =
    let l = c.loop-block in
    sym (marked_end l.marks c.args.list.now l.block-index (omega arith)) ∙ l.invariant

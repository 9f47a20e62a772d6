-- `mend::free_strays` meets its contract: setting what remains of the lost blocks makes what setting all of them makes, and those set and those to come are all.
-- The blocks ahead still hold what they held. Assumes nothing.
use Rattle.std.proofs.Common.{◌∙◌, arith}
use Rattle.mend.specs.Lemmas.Setting.{lost_turn, setting_image, setting_count, setting_few}
use Rattle.mend.proofs.free_strays.Goals as goal

pub overflow_add-changed : goal.overflow_add-changed
overflow_add-changed c =
    let w = c.free_value-changed.ensures in
    let turned = lost_turn c.args.marks.now c.loop-block.invariant c.loop-block-test.true w.image_after w.value in
    omega (arith, c.requires.0.blocks_most, setting_few _ _ _ _ _ turned)

pub loop-block-preserved : goal.loop-block-preserved
loop-block-preserved c = let w = c.free_value-changed.ensures in lost_turn c.args.marks.now c.loop-block.invariant c.loop-block-test.true w.image_after w.value

pub returns : goal.returns
returns c =
    let s = c.loop-block.invariant in
    let end = c.loop-block-test.false in
    record { image_after = setting_image _ _ _ _ _ end s; value = c.from.ensures ∙ setting_count _ _ _ _ _ end s }

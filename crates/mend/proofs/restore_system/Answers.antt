-- `mend::restore_system` meets its contract: setting what remains of the wrong system blocks makes what setting all of them makes, and those set and those to
-- come are all. The blocks ahead still hold what they held. Assumes nothing.
use Rattle.std.proofs.Common.{◌≡◌, ◌-◌, arith}
use Rattle.mend.specs.Lemmas.Setting.{wrong_turn, setting_image, setting_count, setting_few}
use Rattle.salvage.specs.Salvage.{wrong_system}
use Rattle.view.specs.Rules.{bad_system}
use Rattle.mend.proofs.restore_system.Goals as goal

pub overflow_add-changed : goal.overflow_add-changed
overflow_add-changed c =
    let w = c.set_value-changed.ensures in
    let turned = wrong_turn c.loop-block.invariant c.loop-block-test.true w.image_after w.value in
    omega (arith, c.requires.0.blocks_most, c.requires.0.system_low, c.requires.0.data_some, setting_few _ _ _ _ _ turned)

pub loop-block-preserved : goal.loop-block-preserved
loop-block-preserved c = let w = c.set_value-changed.ensures in wrong_turn c.loop-block.invariant c.loop-block-test.true w.image_after w.value

pub returns : goal.returns
unfolding wrong_system bad_system
returns c =
    let s = c.loop-block.invariant in
    let end = c.loop-block-test.false in
    let z : c.args.layout.system - 0 ≡ c.args.layout.system = omega arith in
    record { image_after = rw z at (setting_image _ _ _ _ _ end s); value = rw z at (setting_count _ _ _ _ _ end s) }

-- `mend::erase_dropped` meets its contract: erasing what remains of the dropped slots makes what erasing all of them makes.
-- Each turn erases one slot if the report drops it, as the definition does at each of those. Assumes nothing.
use Rattle.mend.specs.Lemmas.Setting.{erasing_turn, erasing_end}
use Rattle.mend.proofs.erase_dropped.Goals as goal

pub loop-slot-preserved : goal.loop-slot-preserved
loop-slot-preserved c = erasing_turn _ _ _ _ _ _ c.loop-slot.invariant c.loop-slot-test.true c.erase_if.ensures

pub returns : goal.returns
returns c = erasing_end _ _ _ _ c.loop-slot-test.false c.loop-slot.invariant

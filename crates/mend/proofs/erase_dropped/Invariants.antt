-- `mend::erase_dropped` meets its contract: erasing what remains of the dropped slots makes what erasing all of them makes.
-- Each turn erases one slot if the report drops it, as the definition does at each of those. Assumes nothing.
use Rattle.mend.specs.Lemmas.Setting.{Erasing}
use Rattle.mend.proofs.erase_dropped.Given as goal

abbrev pub invariant-loop-slot : goal.invariant-loop-slot
invariant-loop-slot l = Erasing l.layout l.report l.initial.image l.image l.slot l.end

-- `mend::free_strays` meets its contract: setting what remains of the lost blocks makes what setting all of them makes, and those set and those to come are all.
-- The blocks ahead still hold what they held. Assumes nothing.
use Rattle.laws.specs.Reader.{bytes}
use Rattle.map.specs.Map.{map_at}
use Rattle.mend.specs.Lemmas.Setting.{Setting}
use Rattle.mend.specs.Steps.{is_lost}
use Rattle.mend.proofs.free_strays.Given as goal

abbrev pub invariant-loop-block : goal.invariant-loop-block
invariant-loop-block l =
    Setting (is_lost (map_at (bytes l.initial.image)) l.marks) 0 l.initial.image l.image l.fn.layout.first l.block l.block-end l.changed

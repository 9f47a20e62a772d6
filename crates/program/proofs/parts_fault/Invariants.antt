-- The loop of `program::parts_fault`: what the parts from the one in hand on give is what all give. Assumes nothing.
use Rattle.program.specs.Lemmas.Arms.{RestOf}
use Rattle.program.proofs.parts_fault.Given as goal

abbrev pub invariant-loop-part : goal.invariant-loop-part
invariant-loop-part l = RestOf l.file l.parts l.part

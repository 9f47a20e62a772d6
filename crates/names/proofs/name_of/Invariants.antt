-- `names::name_of` meets its contract: after i turns the name's first i bytes are written over zeros.
-- The loop writes the name in order; zeros with a list written in front are the list padded. Assumes nothing.
use Rattle.std.proofs.Common.{◌≡◌, take}
use Rattle.laws.specs.Splice.{splice}
use Rattle.names.specs.Names.{name_of}
use Rattle.names.proofs.name_of.Given as goal

abbrev pub invariant-loop-i : goal.invariant-loop-i
invariant-loop-i l = l.name ≡ splice l.initial.name 0 (take l.i (name_of l.layout l.area))

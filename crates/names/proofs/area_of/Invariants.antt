-- `names::area_of` meets its contract: after i turns the name's first i bytes stand in front of the padding.
-- The loop writes the name in order over an area of padding. Assumes nothing.
use Rattle.std.proofs.Common.{◌≡◌, map, take}
use Rattle.laws.specs.Splice.{splice}
use Rattle.names.specs.Names.{to_disk}
use Rattle.names.proofs.area_of.Given as goal

abbrev pub invariant-loop-i : goal.invariant-loop-i
invariant-loop-i l = l.area ≡ splice l.initial.area 0 (take l.i (map (to_disk l.layout) l.name))

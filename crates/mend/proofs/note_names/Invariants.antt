-- `mend::note_names` meets its contract: the slots below the one in hand are noted, and the table has them; those past the used ones have zeros.
-- Each turn notes one slot more. Assumes nothing.
use Rattle.image.specs.Image.{view_of}
use Rattle.laws.specs.Reader.{bytes}
use Rattle.mend.specs.Steps.{name_note, Reported}
use Rattle.slots.specs.Hashes.{Tops, Lowers}
use Rattle.mend.proofs.note_names.Given as goal

abbrev pub invariant-loop-slot : goal.invariant-loop-slot
invariant-loop-slot l =
    Reported (name_note l.image.layout (view_of l.image.layout (bytes l.image.bytes.now))) l.initial.report l.report l.slot × Tops l.image.layout (bytes l.image.bytes.now) l.table.tops l.slot × Lowers l.image.layout (bytes l.image.bytes.now) l.table.lowers l.slot

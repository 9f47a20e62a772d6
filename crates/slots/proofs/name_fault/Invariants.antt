-- `slots::name_fault` meets its contract: the lowest slot of those left with a lower slot's name and type is that of all, and the table has the slots below it.
-- One search, by its laws; each turn hands the table on. Assumes nothing.
use Rattle.image.specs.Image.{view_of}
use Rattle.laws.specs.Lemmas.Search.{Searched}
use Rattle.laws.specs.Reader.{bytes}
use Rattle.slots.specs.Hashes.{Tops, Lowers}
use Rattle.view.specs.Rules.{repeated}
use Rattle.slots.proofs.name_fault.Given as goal

abbrev pub invariant-loop-slot : goal.invariant-loop-slot
invariant-loop-slot l =
    Searched (repeated l.layout (view_of l.layout (bytes l.head))) l.end l.slot × Tops l.layout (bytes l.head) l.table.tops l.slot × Lowers l.layout (bytes l.head) l.table.lowers l.slot

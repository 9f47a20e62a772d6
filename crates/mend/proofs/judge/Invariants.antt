-- `mend::judge` meets its contract: once the slots below the one in hand were judged, the report says so of them and the marks are those of the kept chains.
-- Each turn judges one slot more; the slots past the used ones are empty, and noted so. Assumes nothing.
use Rattle.std.proofs.Common.{◌≡◌, length}
use Rattle.image.specs.Image.{view_of}
use Rattle.laws.specs.Reader.{bytes}
use Rattle.map.specs.Map.{Marks}
use Rattle.mend.specs.Steps.{Reported}
use Rattle.salvage.specs.Salvage.{disk_after, report_of}
use Rattle.view.specs.Disk.{owned}
use Rattle.mend.proofs.judge.Given as goal

abbrev pub invariant-loop-slot : goal.invariant-loop-slot
invariant-loop-slot l =
    Reported (report_of l.image.layout (view_of l.image.layout (bytes l.image.bytes.now))) l.initial.report l.report l.slot × (length l.list ≡ 1600)
    × Marks 1600 l.marks (owned (disk_after l.image.layout (view_of l.image.layout (bytes l.image.bytes.now)) l.slot) l.slot)

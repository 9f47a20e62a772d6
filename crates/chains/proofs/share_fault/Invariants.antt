-- `chains::share_fault` meets its contract: marked are the blocks of lower slots' chains, so a slot that comes upon one shares it.
-- No chain is broken, so each is a faultless one to walk; the slots left answer as all. Assumes nothing.
use Rattle.image.specs.Image.{view_of}
use Rattle.laws.specs.Lemmas.Search.{Searched}
use Rattle.laws.specs.Reader.{bytes}
use Rattle.map.specs.Map.{Marks}
use Rattle.view.specs.Disk.{owned}
use Rattle.view.specs.Rules.{sharing}
use Rattle.chains.proofs.share_fault.Given as goal

abbrev pub invariant-loop-slot : goal.invariant-loop-slot
invariant-loop-slot l =
    Searched (sharing l.head.layout (view_of l.head.layout (bytes l.head.bytes.now))) l.head.layout.slots l.slot × Marks 1600 l.marks (owned (view_of l.head.layout (bytes l.head.bytes.now)) l.slot)

-- `mend::used_end` meets its contract: past the end in hand no slot is used, so that the used slots below it go as far as all.
-- One search from the top down. Assumes nothing.
use Rattle.std.proofs.Common.{◌≡◌}
use Rattle.image.specs.Image.{view_of}
use Rattle.laws.specs.Reader.{bytes}
use Rattle.mend.specs.Steps.{used_end}
use Rattle.mend.proofs.used_end.Given as goal

abbrev pub invariant-loop-slot : goal.invariant-loop-slot
invariant-loop-slot l = used_end (view_of l.image.layout (bytes l.image.bytes.now)) l.slot ≡ used_end (view_of l.image.layout (bytes l.image.bytes.now)) l.image.layout.slots

-- `chains::count_chained` meets its contract: the blocks counted are those of the slots below.
-- No chain is broken, so each is short, and a slot adds its links and one. Assumes nothing.
use Rattle.std.proofs.Common.{◌≡◌, ◌*◌, ◌≤◌, length}
use Rattle.image.specs.Image.{view_of}
use Rattle.laws.specs.Reader.{bytes}
use Rattle.view.specs.Disk.{owned}
use Rattle.chains.proofs.count_chained.Given as goal

abbrev pub invariant-loop-slot : goal.invariant-loop-slot
invariant-loop-slot l = (l.blocks ≡ length (owned (view_of l.head.layout (bytes l.head.bytes.now)) l.slot)) × (l.blocks ≤ 1600 * l.slot)

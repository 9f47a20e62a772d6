-- `mend::erase_if` meets its contract: a verdict over 1 drops the slot, and its 22 bytes are cleared.
-- By the verdict. Assumes nothing.
use Rattle.std.proofs.Common.{lt-ltb}
use Rattle.image.specs.Image.{erase_entry}
use Rattle.mend.proofs.erase_if.Goals as goal

pub returns-then-verdict-gt-KEPT : goal.returns-then-verdict-gt-KEPT
unfolding erase_entry
returns-then-verdict-gt-KEPT c = rw (lt-ltb 1 _ c.if-verdict-gt-KEPT.true) c.clear.ensures

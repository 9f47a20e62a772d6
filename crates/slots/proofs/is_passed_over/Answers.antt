-- `slots::is_passed_over` meets its contract: it reads byte 16.
-- By opening the test. Assumes nothing.
use Rattle.std.proofs.Common.{refl}
use Rattle.rules.specs.Check.{passed_over}
use Rattle.slots.proofs.is_passed_over.Goals as goal

pub returns : goal.returns
unfolding passed_over
returns c = refl

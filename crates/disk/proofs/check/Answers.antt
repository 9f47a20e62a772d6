-- `disk::check` meets its contract: an image is its own head.
-- By `start_check`. Assumes nothing.
use Rattle.std.proofs.Common.{refl, ◌∙◌, arith}
use Rattle.rules.proofs.Head.{start_check}
use Rattle.disk.proofs.check.Goals as goal

pub returns : goal.returns
returns c = let img = c.args.image.now in c.check_head.ensures ∙ start_check img img (omega arith) refl

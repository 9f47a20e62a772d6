-- `disk::check_head` meets its contract: what isn't known is refused as it is, else the kind's check.
-- By what is known; a disk that is has a whole head. Assumes nothing.
use Rattle.std.proofs.Common.{◌∙◌}
use Rattle.std.proofs.lemmas.Result.{err_from_is_err_and}
use Rattle.disk.specs.Lemmas.Steps.{start_unknown, start_disk, start_long}
use Rattle.disk.proofs.check_head.Goals as goal

pub check_as-requires : goal.check_as-requires
check_as-requires c = start_long _ _ c.known.ensures c.in_ok-kind.was

pub returns : goal.returns
returns c = c.check_as.ensures ∙ start_disk _ _ c.known.ensures c.in_ok-kind.was

pub returns-in_err-kind : goal.returns-in_err-kind
returns-in_err-kind c =
    let refused = err_from_is_err_and c.from_residual.result c.from_residual.ensures.1 in
    rw (refused.1, refused.2) (start_unknown _ _ c.known.ensures c.in_err-kind.was)

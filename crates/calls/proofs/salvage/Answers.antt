-- `calls::salvage` meets its contract: an image that isn't known is refused as it is, else the run on its layout.
-- By what is known. Assumes nothing.
use Rattle.std.proofs.lemmas.Result.{err_from_is_err_and}
use Rattle.calls.specs.Lemmas.Salvaging.{unknown_call, disk_right, disk_call}
use Rattle.calls.proofs.salvage.Goals as goal

pub salvage_known-requires : goal.salvage_known-requires
salvage_known-requires c = disk_right _ c.known.ensures c.in_ok-kind.was c.layout_of-layout.ensures

pub returns-in_err-kind : goal.returns-in_err-kind
returns-in_err-kind c =
    let refused = err_from_is_err_and c.from_residual.result c.from_residual.ensures.1 in
    rw (refused.1, refused.2) (unknown_call _ c.known.ensures _ c.in_err-kind.was)

pub returns : goal.returns
returns c = disk_call _ c.known.ensures c.in_ok-kind.was c.layout_of-layout.ensures _ c.salvage_known.ensures

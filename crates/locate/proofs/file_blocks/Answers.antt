-- `locate::file_blocks` meets its contract: a refused image answers the check's refusal, an accepted one its slot's blocks.
-- The check's answer is taken apart, and the layout is that of its kind and density. Assumes nothing.
use Rattle.std.proofs.Common.{◌∙◌}
use Rattle.std.proofs.lemmas.Result.{err_from_is_err_and}
use Rattle.calls.specs.Accepts.{accepted_by}
use Rattle.locate.specs.Lemmas.Locate.{blocks_refused, blocks_done}
use Rattle.locate.proofs.file_blocks.Goals as goal

pub returns-in_err-kind : goal.returns-in_err-kind
returns-in_err-kind c =
    let refused = err_from_is_err_and c.from_residual.result c.from_residual.ensures.1 in
    rw (refused.1, refused.2) (blocks_refused _ c.args.slot _ c.check.ensures c.in_err-kind.was)

pub invariant_of-slot_blocks : goal.invariant_of-slot_blocks
invariant_of-slot_blocks c = record { accepted = accepted_by _ c.check.ensures c.in_ok-kind.was c.layout_of-layout.ensures }

pub returns : goal.returns
returns c = c.slot_blocks.ensures ∙ blocks_done _ c.args.slot _ c.check.ensures c.in_ok-kind.was c.layout_of-layout.ensures

-- `calls::list` meets its contract: a refused image answers the check's refusal, an accepted one what the record says.
-- The check's answer is taken apart, and the layout is that of its kind and density. Assumes nothing.
use Rattle.std.proofs.Common.{subst}
use Rattle.calls.specs.Accepts.{accepted_by}
use Rattle.calls.specs.Answers.{Lists}
use Rattle.calls.specs.Lemmas.Answers.{lists_refused}
use Rattle.calls.specs.Lemmas.Done.{list_done}
use Rattle.calls.proofs.list.Goals as goal

pub returns-in_default : goal.returns-in_default
returns-in_default c = lists_refused _ _ c.check-checked.ensures c.unwrap_err.ensures

pub invariant_of-list : goal.invariant_of-list
invariant_of-list c = record { accepted = accepted_by _ c.check-checked.ensures c.in-Ok.is c.layout_of-layout.ensures }

pub returns : goal.returns
returns c =
    let img = c.args.image.now in
    subst (λ o. Lists img o c.list.result) (list_done img c.check-checked.ensures c.in-Ok.is c.layout_of-layout.ensures c.args.slot) c.list.ensures

-- `calls::page` meets its contract: a refused image answers the check's refusal, an accepted one what the record says.
-- The check's answer is taken apart, and the layout is that of its kind and density. Assumes nothing.
use Rattle.std.proofs.Common.{◌∙◌}
use Rattle.calls.specs.Accepts.{accepted_by}
use Rattle.calls.specs.Answers.{page_call}
use Rattle.calls.specs.Lemmas.Answers.{call_refused}
use Rattle.calls.specs.Lemmas.Done.{page-done}
use Rattle.calls.proofs.page.Goals as goal

pub returns-in_default : goal.returns-in_default
returns-in_default c = call_refused _ (page_call c.args.slot c.args.offset c.args.out.now) c.check-checked.ensures c.unwrap_err.ensures

pub invariant_of-page : goal.invariant_of-page
invariant_of-page c = record { accepted = accepted_by _ c.check-checked.ensures c.in-Ok.is c.layout_of-layout.ensures }

pub returns : goal.returns
returns c = c.page.ensures.image_after ∙ page-done _ c.check-checked.ensures c.in-Ok.is c.layout_of-layout.ensures c.args.slot c.args.offset _

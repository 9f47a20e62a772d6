-- `calls::metered_page` meets its contract: a refused image answers the check's refusal at no cost, an accepted one what the record says.
-- By the check's answer; the layout is that of its kind and density. Assumes nothing.
use Rattle.std.proofs.Common.{◌∙◌, length}
use Rattle.calls.specs.Accepts.{accepted_by}
use Rattle.calls.specs.Lemmas.Answers.{meters_refused}
use Rattle.calls.specs.Lemmas.Done.{page-done, cost_done}
use Rattle.calls.proofs.metered_page.Goals as goal

pub returns-in-Err : goal.returns-in-Err
returns-in-Err c =
    let a = c.args in
    let both = meters_refused a.image.now a.slot a.offset a.out.now c.check.ensures c.in-Err.is c.unpaged.ensures in
    record { image_after = both.0; cost_value = both.1 }

pub invariant_of-page : goal.invariant_of-page
invariant_of-page c = record { accepted = accepted_by _ c.check.ensures c.in-Ok.is c.layout_of-layout.ensures }

pub returns-in-Ok : goal.returns-in-Ok
returns-in-Ok c =
    let a = c.args in
    let m = c.page.ensures in
    record {
      image_after = m.image_after ∙ page-done _ c.check.ensures c.in-Ok.is c.layout_of-layout.ensures a.slot a.offset _;
      cost_value = m.cost_value ∙ cost_done _ c.check.ensures c.in-Ok.is c.layout_of-layout.ensures a.slot a.offset (length a.out.now);
    }

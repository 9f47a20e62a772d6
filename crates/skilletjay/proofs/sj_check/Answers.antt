-- `skilletjay::sj_check` meets its contract: the result is that of the check as a call.
-- What the check ensures, and the check as a call (`check_call`). Assumes nothing.
use Rattle.std.proofs.Common.{◌∙◌, sym, ap}
use Rattle.rules.specs.Check.{answer_of, Checked}
use Rattle.rules.proofs.Demand.{check_call}
use Rattle.skilletjay.specs.Results.{checked_result}
use Rattle.skilletjay.specs.Told.{checked}
use Rattle.skilletjay.proofs.sj_check.Goals as goal

pub returns : goal.returns
returns c = ap checked (c.from.ensures ∙ ap (λ (w : Checked). checked_result (answer_of w)) c.check.ensures ∙ ap checked_result (sym (check_call c.args.image.now)))

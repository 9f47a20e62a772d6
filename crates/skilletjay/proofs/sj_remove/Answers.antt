-- `skilletjay::sj_remove` meets its contract: the result is that of remove's answer, and the image is the one that remove leaves.
-- What remove ensures. Assumes nothing.
use Rattle.std.proofs.Common.{refl, ap, ◌∙◌, List, ℕ}
use Rattle.record.specs.Record.{Outcome}
use Rattle.skilletjay.specs.Results.{done_result}
use Rattle.skilletjay.proofs.sj_remove.Goals as goal

pub returns : goal.returns
returns c =
    let e = c.remove.ensures in
    let result = c.from.ensures ∙ ap (λ (o : Outcome (List ℕ)). done_result o.answer) e in
    let lent = ap (λ (o : Outcome (List ℕ)). o.state) e in
    rw (result, lent) refl

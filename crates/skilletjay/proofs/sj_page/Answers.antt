-- `skilletjay::sj_page` meets its contract: the result is that of page's answer, and the lent output is page's.
-- What page ensures. Assumes nothing.
use Rattle.std.proofs.Common.{refl, ◌∙◌, ap, List, ℕ}
use Rattle.record.specs.Record.{Outcome}
use Rattle.skilletjay.specs.Results.{paged_result}
use Rattle.skilletjay.proofs.sj_page.Goals as goal

pub returns : goal.returns
returns c =
    let e = c.page.ensures in
    let result = c.from.ensures ∙ ap (λ (o : Outcome (List ℕ)). paged_result o.answer) e in
    let lent = ap (λ (o : Outcome (List ℕ)). o.output) e in
    rw (result, lent) refl

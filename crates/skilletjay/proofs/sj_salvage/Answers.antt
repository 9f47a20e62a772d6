-- `skilletjay::sj_salvage` meets its contract: the result is that of salvage's answer, and report and image are those that salvage leaves.
-- What salvage ensures. Assumes nothing.
use Rattle.std.proofs.Common.{refl, ap, ◌∙◌, List, ℕ}
use Rattle.record.specs.Record.{Outcome}
use Rattle.skilletjay.specs.Results.{changed_result, changed_counted}
use Rattle.skilletjay.proofs.sj_salvage.Goals as goal

pub returns : goal.returns
returns c =
    let e = c.salvage.ensures in
    let result = c.from.ensures ∙ changed_counted c.salvage.result ∙ ap (λ (o : Outcome (List ℕ)). changed_result o.answer) e in
    let report = ap (λ (o : Outcome (List ℕ)). o.output) e in
    let lent = ap (λ (o : Outcome (List ℕ)). o.state) e in
    rw (result, report, lent) refl

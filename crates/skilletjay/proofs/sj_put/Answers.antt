-- `skilletjay::sj_put` meets its contract: the result is that of put's answer, and the image is the one that put leaves.
-- What put ensures. Assumes nothing.
use Rattle.std.proofs.Common.{refl, ap, ◌∙◌, List, ℕ}
use Rattle.record.specs.Record.{Outcome}
use Rattle.skilletjay.specs.Results.{found_result}
use Rattle.skilletjay.proofs.sj_put.Goals as goal

pub returns : goal.returns
returns c =
    let e = c.put.ensures in
    let result = c.from.ensures ∙ ap (λ (o : Outcome (List ℕ)). found_result o.answer) e in
    let lent = ap (λ (o : Outcome (List ℕ)). o.state) e in
    rw (result, lent) refl

-- `skilletjay::sj_list` meets its contract: the result is that of list's answer, its name followed by zeros.
-- What list ensures. Assumes nothing.
use Rattle.std.proofs.Common.{◌∙◌, ap, ap₂, List, ℕ}
use Rattle.record.specs.Record.{Outcome}
use Rattle.skilletjay.specs.Results.{listed_with}
use Rattle.skilletjay.specs.Told.{listed}
use Rattle.skilletjay.proofs.sj_list.Goals as goal

pub returns : goal.returns
returns c =
    let l = c.list.ensures in
    ap (listed c.args.slot) (c.from.ensures ∙ ap₂ listed_with (ap (λ (o : Outcome (List ℕ)). o.answer) l.answer) l.name)

-- `skilletjay::sj_blocks` meets its contract: the result is that of the call's answer, and the lent output is the call's.
-- What the call ensures. Assumes nothing.
use Rattle.std.proofs.Common.{◌∙◌, ap, ℕ}
use Rattle.laws.specs.Refusals.{Filled}
use Rattle.skilletjay.specs.Results.{counted_result}
use Rattle.skilletjay.proofs.sj_blocks.Goals as goal

pub returns : goal.returns
returns c =
    let e = c.file_blocks.ensures in
    record { answer = c.from.ensures ∙ ap (λ (f : Filled ℕ). counted_result f.answer) e; output = ap (λ (f : Filled ℕ). f.output) e }

-- `skilletjay::sj_s900_pack` meets its contract: the result is that of packing's answer, and the output is what packing leaves.
-- What `pack` ensures, as C's fields. Assumes nothing.
use Rattle.std.proofs.Common.{ap, ◌∙◌, ℕ}
use Rattle.laws.specs.Refusals.{Filled}
use Rattle.skilletjay.specs.Results.{counted_result}
use Rattle.skilletjay.proofs.sj_s900_pack.Goals as goal

pub returns : goal.returns
returns c =
    let e = c.pack.ensures in
    record { answer = c.from.ensures ∙ ap (λ (o : Filled ℕ). counted_result o.answer) e; output = ap (λ (o : Filled ℕ). o.output) e }

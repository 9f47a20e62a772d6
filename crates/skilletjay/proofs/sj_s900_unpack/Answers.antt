-- `skilletjay::sj_s900_unpack` meets its contract: the result is that of unpacking's answer, and the output is what unpacking leaves.
-- What `unpack` ensures, as C's fields. Assumes nothing.
use Rattle.std.proofs.Common.{ap, ◌∙◌, ℤ}
use Rattle.laws.specs.Refusals.{Filled}
use Rattle.skilletjay.specs.Results.{counted_result}
use Rattle.skilletjay.proofs.sj_s900_unpack.Goals as goal

pub returns : goal.returns
returns c =
    let e = c.unpack.ensures in
    record { answer = c.from.ensures ∙ ap (λ (o : Filled ℤ). counted_result o.answer) e; output = ap (λ (o : Filled ℤ). o.output) e }

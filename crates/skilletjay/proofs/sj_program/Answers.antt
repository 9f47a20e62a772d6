-- `skilletjay::sj_program` meets its contract: the result is that of the check's answer.
-- What the check ensures, as C's fields. Assumes nothing.
use Rattle.std.proofs.Common.{ap, ◌∙◌}
use Rattle.skilletjay.specs.Results.{counted_result}
use Rattle.skilletjay.proofs.sj_program.Goals as goal

pub returns : goal.returns
returns c = c.from.ensures ∙ ap counted_result c.check.ensures

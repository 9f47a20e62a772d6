-- `blocks::copy_part` meets its contract: the part that was lent comes back as the source's part, by `copy_back`. Assumes nothing.
use Rattle.std.proofs.Common.{arith}
use Rattle.laws.proofs.Lemmas.Splice.{copy_back}
use Rattle.blocks.proofs.copy_part.Goals as goal

pub returns : goal.returns
returns c =
    let a = c.args in
    copy_back a.target.now a.at a.n a.source.now a.from (omega arith) (omega arith) c.copy_run.ensures

-- `locate::copy_blocks` meets its contract: the output's front that was lent comes back as the blocks. Assumes nothing.
use Rattle.std.proofs.Common.{refl, arith, length}
use Rattle.laws.specs.Lemmas.Splice.{splice_back}
use Rattle.locate.proofs.copy_blocks.Goals as goal

pub returns : goal.returns
returns c =
    let a = c.args in
    rw c.copy_from_slice.ensures.after (splice_back a.out.now 0 (length a.list.now) a.list.now (omega arith) refl)

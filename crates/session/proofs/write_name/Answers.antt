-- `session::write_name` meets its contract: a copy of all 12 bytes is a write of the name.
-- From what `copy_part` ensures. Assumes nothing.
use Rattle.std.proofs.Common.{ap, ◌∙◌, arith, take_all}
use Rattle.laws.specs.Splice.{splice, part}
use Rattle.session.proofs.write_name.Goals as goal

pub returns : goal.returns
unfolding part
returns c =
    let a = c.args in
    c.copy_part.ensures ∙ ap (splice a.shown.now 8) (take_all 12 _ (omega arith))

-- `map::next_of` meets its contract: the map value is the first of the blocks after the k-th, or the mark.
-- By whether there is a block after it. Assumes nothing.
use Rattle.std.proofs.Common.{sym, ◌∙◌, ◌+◌}
use Rattle.map.specs.Lemmas.Linking.{first_there, first_none}
use Rattle.map.proofs.next_of.Goals as goal

pub returns-in-Some : goal.returns-in-Some
returns-in-Some c =
    let a = c.args in
    let got = c.in-Some.ensures.lookup in
    c.from.ensures ∙ got.3.1 0 ∙ sym (first_there a.list.now (a.k + 1) a.mark got.3.0)

pub returns-in-None : goal.returns-in-None
returns-in-None c =
    let a = c.args in
    sym (first_none a.list.now (a.k + 1) a.mark c.in-None.ensures.lookup.3)

-- `samples::store_uppers` meets its contract: each word of the second half has its upper byte.
-- One byte a turn, in order. Assumes nothing.
use Rattle.std.proofs.Common.{refl, sym, ap, ◌∙◌, ◌+◌, pos, get_or, FitsSigned, w16, rules}
use Rattle.laws.specs.Splice.{splice}
use Rattle.words.specs.Lemmas.Signed.{read_back}
use Rattle.words.specs.Lemmas.Parts.{parts-tab, written_one, written_all}
use Rattle.words.specs.Words.{upper_bits}
use Rattle.samples.proofs.store_uppers.Goals as goal

pub loop-i-preserved : goal.loop-i-preserved
loop-i-preserved c =
    let a = c.args in
    let words = a.words.now in
    let i = c.loop-i.i in
    let f : FitsSigned w16 (get_or words (a.half + i) (pos 0)) = search rules in
    let word = read_back (get_or words (a.half + i) (pos 0)) f in
    written_one (upper_bits words a.half) a.at a.half a.out.now c.loop-i.invariant c.loop-i-test.true refl (c.high_byte.ensures ∙ rw word refl)

pub returns : goal.returns
unfolding splice
returns c =
    let a = c.args in
    written_all _ _ _ _ _ c.loop-i.invariant c.loop-i-test.false ∙ ap (splice a.out.now a.at) (sym (parts-tab (upper_bits a.words.now a.half) 0 a.half))

-- `samples::store_pairs` meets its contract: each word of the first half has its pair of bytes.
-- One pair a turn, in order. Assumes nothing.
use Rattle.std.proofs.Common.{refl, ◌∙◌, ◌+◌, pos, get_or, FitsSigned, w16, rules}
use Rattle.laws.specs.Splice.{splice}
use Rattle.words.specs.Lemmas.Signed.{read_back}
use Rattle.words.specs.Lemmas.Parts.{written_two, written_all}
use Rattle.words.specs.Words.{low_bits, high_bits}
use Rattle.samples.proofs.store_pairs.Goals as goal

pub loop-i-preserved : goal.loop-i-preserved
loop-i-preserved c =
    let a = c.args in
    let words = a.words.now in
    let i = c.loop-i.i in
    let f : FitsSigned w16 (get_or words i (pos 0)) = search rules in
    let s : FitsSigned w16 (get_or words (a.half + i) (pos 0)) = search rules in
    let first = read_back (get_or words i (pos 0)) f in
    let second = read_back (get_or words (a.half + i) (pos 0)) s in
    written_two (low_bits words a.half) (high_bits words) a.at a.half a.out.now c.loop-i.invariant c.loop-i-test.true refl refl
    (c.low_byte.ensures ∙ rw (first, second) refl) (c.high_byte.ensures ∙ rw first refl)

pub returns : goal.returns
unfolding splice
returns c = written_all _ _ _ _ _ c.loop-i.invariant c.loop-i-test.false

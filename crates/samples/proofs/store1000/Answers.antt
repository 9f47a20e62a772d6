-- `samples::store1000` meets its contract: each word has its two bytes.
-- Two bytes a turn, in order. Assumes nothing.
use Rattle.std.proofs.Common.{ap, ◌∙◌, ℕ, ◌+◌, ◌*◌, pos, get_or, FitsSigned, w16, rules}
use Rattle.laws.specs.Splice.{splice}
use Rattle.blocks.specs.Numbers.{digits}
use Rattle.blocks.specs.Lemmas.Numbers.{length_digits}
use Rattle.words.specs.Lemmas.Signed.{read_back}
use Rattle.words.specs.Lemmas.Parts.{written_more, written_all}
use Rattle.words.specs.Words.{bits_of, bits_at}
use Rattle.samples.specs.Samples.{packed1000}
use Rattle.samples.proofs.store1000.Goals as goal

pub loop-i-preserved : goal.loop-i-preserved
unfolding splice
loop-i-preserved c =
    let a = c.args in
    let l = c.loop-i in
    let words = a.words.now in
    let f : FitsSigned w16 (get_or words l.i (pos 0)) = search rules in
    let bits = c.bits.ensures.0 ∙ ap (bits_of 65536) (read_back (get_or words l.i (pos 0)) f) in
    written_more (λ k. digits 2 (bits_at 65536 words k)) 2 a.at _ a.out.now l.invariant c.loop-i-test.true (length_digits 2 _)
    (c.store.ensures ∙ ap (λ (v : ℕ). splice l.out (a.at + 2 * l.i) (digits 2 v)) (c.from.ensures ∙ bits))

pub returns : goal.returns
unfolding splice packed1000
returns c = written_all _ _ _ _ _ c.loop-i.invariant c.loop-i-test.false

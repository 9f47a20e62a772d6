-- `samples::are_short` meets its contract: one word that is not held makes it false, and it stays so.
-- The words before the one in hand are passed. Assumes nothing.
use Rattle.std.proofs.Common.{ap, ◌∙◌, pos, get_or, FitsSigned, w16, rules}
use Rattle.words.specs.Words.{holds}
use Rattle.words.specs.Lemmas.Signed.{read_back}
use Rattle.samples.specs.Samples.{is_short}
use Rattle.samples.specs.Lemmas.Steps.{passed_more, passed_all}
use Rattle.samples.proofs.are_short.Goals as goal

pub loop-word-preserved : goal.loop-word-preserved
loop-word-preserved c =
    let l = c.loop-word in
    let word = get_or c.args.words.now l.word-index (pos 0) in
    let f : FitsSigned w16 word = search rules in
    passed_more (is_short c.args.words.now) _ l.word-index l.short l.invariant _ c.loop-word-test.true (c.is_short-short.ensures ∙ ap (holds 4096) (read_back word f))

pub returns : goal.returns
returns c = passed_all (is_short c.args.words.now) _ c.loop-word.word-index c.loop-word.short c.loop-word.invariant c.loop-word-test.false

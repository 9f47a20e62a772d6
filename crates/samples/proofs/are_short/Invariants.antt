-- The loop of `samples::are_short`: the words before the one in hand are passed. Assumes nothing.
use Rattle.std.proofs.Common.{length}
use Rattle.samples.specs.Samples.{is_short}
use Rattle.samples.specs.Lemmas.Steps.{Passed}
use Rattle.samples.proofs.are_short.Given as goal

abbrev pub invariant-loop-word : goal.invariant-loop-word
invariant-loop-word l = Passed (is_short l.words) (length l.words) l.word-index l.short

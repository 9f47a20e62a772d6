-- The loop of `samples::store_pairs`: the pairs below number i are stored. Assumes nothing.
use Rattle.words.specs.Lemmas.Parts.{Written}
use Rattle.words.specs.Words.{pair_at}
use Rattle.samples.proofs.store_pairs.Given as goal

abbrev pub invariant-loop-i : goal.invariant-loop-i
invariant-loop-i l = Written (pair_at l.words l.half) 2 l.at l.half l.initial.out l.out l.i

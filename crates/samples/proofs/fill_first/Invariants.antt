-- The loop of `samples::fill_first`: the words below i are filled. Assumes nothing.
use Rattle.std.proofs.Common.{[], ◌∷◌}
use Rattle.laws.specs.Reader.{bytes}
use Rattle.words.specs.Lemmas.Parts.{Written}
use Rattle.words.specs.Words.{word_of, first_bits}
use Rattle.samples.proofs.fill_first.Given as goal

abbrev pub invariant-loop-i : goal.invariant-loop-i
invariant-loop-i l = Written (λ k. word_of 4096 (first_bits (bytes l.source) k) ∷ []) 1 0 l.half l.initial.words l.words l.i

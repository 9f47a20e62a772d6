-- The loop of `samples::fill_second`: the words of the second half below number i are filled. Assumes nothing.
use Rattle.std.proofs.Common.{[], ◌∷◌}
use Rattle.laws.specs.Reader.{bytes}
use Rattle.words.specs.Lemmas.Parts.{Written}
use Rattle.words.specs.Words.{word_of, second_bits}
use Rattle.samples.proofs.fill_second.Given as goal

abbrev pub invariant-loop-i : goal.invariant-loop-i
invariant-loop-i l = Written (λ k. word_of 4096 (second_bits (bytes l.source) l.half k) ∷ []) 1 l.half l.half l.initial.words l.words l.i

-- The loop of `samples::fill1000`: the words below i are filled. Assumes nothing.
use Rattle.std.proofs.Common.{◌*◌, [], ◌∷◌}
use Rattle.laws.specs.Reader.{bytes}
use Rattle.blocks.specs.Numbers.{number}
use Rattle.words.specs.Lemmas.Parts.{Written}
use Rattle.words.specs.Words.{word_of}
use Rattle.samples.proofs.fill1000.Given as goal

abbrev pub invariant-loop-i : goal.invariant-loop-i
invariant-loop-i l = Written (λ k. word_of 65536 (number 2 (bytes l.source) (2 * k)) ∷ []) 1 0 l.count l.initial.words l.words l.i

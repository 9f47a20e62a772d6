-- The loop of `samples::store_uppers`: the upper bytes below number i are stored. Assumes nothing.
use Rattle.std.proofs.Common.{[], ◌∷◌}
use Rattle.words.specs.Lemmas.Parts.{Written}
use Rattle.words.specs.Words.{upper_bits}
use Rattle.samples.proofs.store_uppers.Given as goal

abbrev pub invariant-loop-i : goal.invariant-loop-i
invariant-loop-i l = Written (λ k. upper_bits l.words l.half k ∷ []) 1 l.at l.half l.initial.out l.out l.i

-- The loop of `samples::store1000`: the bytes of the words below i are stored. Assumes nothing.
use Rattle.std.proofs.Common.{length}
use Rattle.blocks.specs.Numbers.{digits}
use Rattle.words.specs.Lemmas.Parts.{Written}
use Rattle.words.specs.Words.{bits_at}
use Rattle.samples.proofs.store1000.Given as goal

abbrev pub invariant-loop-i : goal.invariant-loop-i
invariant-loop-i l = Written (λ k. digits 2 (bits_at 65536 l.words k)) 2 l.at (length l.words) l.initial.out l.out l.i

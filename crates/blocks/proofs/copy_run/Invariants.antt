-- `blocks::copy_run` meets its contract: in the end the target is the source.
-- The loop writes the source's elements in order: after i turns the target holds its first i. Assumes nothing.
use Rattle.std.proofs.Common.{◌≡◌, length, take}
use Rattle.laws.specs.Splice.{splice}
use Rattle.blocks.proofs.copy_run.Given as goal

abbrev pub invariant-loop-i : goal.invariant-loop-i
invariant-loop-i l = (length l.target ≡ length l.initial.target) × (l.target ≡ splice l.initial.target 0 (take l.i l.source))

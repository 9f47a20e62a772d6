-- `cases::answers::sum_of` is safe: the sum stays below 65,521.
-- So 31 times it, and a byte, fit.
use Rattle.std.specs.Prelude.{◌<◌}
use Rattle.cases.proofs.answers.sum_of.Given as goal

abbrev pub invariant-loop-byte : goal.invariant-loop-byte
invariant-loop-byte l = l.sum < 65521

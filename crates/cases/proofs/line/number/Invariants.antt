-- `cases::line::number` is safe and ends: what is left of the text gets less.
-- No invariant is needed.
use Rattle.std.specs.Prelude.{◌-◌, length}
use Rattle.cases.proofs.line.number.Given as goal

abbrev pub decreases-loop-next : goal.decreases-loop-next
decreases-loop-next l = length l.text - l.next

-- The loop of `headers::fault`: what the rows from the one in hand on give is what all of them give. Assumes nothing.
use Rattle.rows.proofs.Lemmas.Arms.{RestOf}
use Rattle.headers.proofs.fault.Given as goal

abbrev pub invariant-loop-row : goal.invariant-loop-row
invariant-loop-row l = RestOf l.header l.base l.row-items l.row-index

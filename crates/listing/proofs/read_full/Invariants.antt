-- `listing::read_full`: each turn reads to behind what came before.
-- The invariant: what has come lies within the buffer; the measure is the room that is left.
use Rattle.std.specs.Prelude.{◌-◌, ◌≤◌, length}
use Rattle.listing.proofs.read_full.Given as goal

abbrev pub invariant-loop-done : goal.invariant-loop-done
invariant-loop-done l = l.done ≤ length l.buffer

abbrev pub decreases-loop-done : goal.decreases-loop-done
decreases-loop-done l = length l.buffer - l.done

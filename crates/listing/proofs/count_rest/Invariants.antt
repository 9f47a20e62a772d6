-- `listing::count_rest` is safe and ends: each turn brings at most 65,536 bytes.
-- The invariant: what has come is at most what the turns so far could bring. Assumes nothing.
use Rattle.std.proofs.Common.{◌*◌, ◌≤◌}
use Rattle.listing.proofs.count_rest.Given as goal

abbrev pub invariant-loop : goal.invariant-loop
invariant-loop l = l.total ≤ 65536 * l.counter

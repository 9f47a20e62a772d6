-- `listing::put_density` meets its contract: each density's arm puts that density's word.
-- By the arm's test and what `put` ensures. Assumes nothing.
use Rattle.std.proofs.Common.{arith}
use Rattle.listing.specs.Lemmas.Puts.{puts_near}
use Rattle.listing.proofs.put_density.Goals as goal

pub returns-in-Low : goal.returns-in-Low
returns-in-Low c = rw c.in-Low.is (puts_near c.put.ensures 5 (omega arith))

pub returns-in-High : goal.returns-in-High
returns-in-High c = rw c.in-High.is c.put-in-High.ensures

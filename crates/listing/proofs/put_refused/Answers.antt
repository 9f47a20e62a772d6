-- `listing::put_refused` meets its contract: the number, then the place.
-- By joining what the calls put. Assumes nothing.
use Rattle.listing.specs.Lemmas.Puts.{puts_then}
use Rattle.listing.proofs.put_refused.Goals as goal

pub returns : goal.returns
returns c = puts_then c.put_number-next.ensures c.put_number.ensures

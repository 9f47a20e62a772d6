-- `names::is_front` meets its contract: `all` over the name's bytes of an area is the test of each of them.
-- By the library's law for `all` over a slice. Assumes nothing.
use borrow.Author.Tests.{tests}
use Rattle.std.proofs.Common.{rules}
use Rattle.names.specs.Names.{stored_byte}
use Rattle.laws.proofs.Tests.{all_told}
use Rattle.names.proofs.is_front.Goals as goal

pub returns : goal.returns
returns c = all_told (stored_byte c.args.layout) _ c.all.ensures.ran (cc) (λ x b q k. search (rules, tests))

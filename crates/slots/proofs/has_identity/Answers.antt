-- `slots::has_identity` meets its contract: `all` over the slots is the test of each of them.
-- By the library's law for `all` over a range. Assumes nothing.
use Rattle.std.proofs.Common.{arith, rules, eqb}
use borrow.Author.Tests.{tests}
use Rattle.image.specs.Image.{entry_at, identity_at}
use Rattle.laws.proofs.Ranges.{all_passed}
use Rattle.laws.specs.Reader.{bytes}
use Rattle.rules.specs.Check.{has_identity}
use Rattle.slots.proofs.has_identity.Goals as goal

pub returns : goal.returns
unfolding has_identity entry_at
returns c =
    let l = c.args.layout in
    all_passed (λ s. eqb (identity_at l (bytes c.args.head.now) s) l.identity) 0 l.slots l.slots c.all.ensures.ran (cc) (omega arith) (λ x t q k. search (rules, tests))

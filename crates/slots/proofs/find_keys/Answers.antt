-- `slots::find_keys` meets its contract: `find` over the slots finds the lowest with the keys and the type.
-- By the library's law for `find` over a range. Assumes nothing.
use Rattle.std.proofs.Common.{arith, rules}
use borrow.Author.Tests.{tests}
use Rattle.laws.proofs.Ranges.{find_told}
use Rattle.laws.specs.Reader.{bytes}
use Rattle.slots.specs.Keys.{has_keys}
use Rattle.slots.proofs.find_keys.Goals as goal

pub returns : goal.returns
returns c =
    let a = c.args in
    find_told _ (λ s. has_keys a.layout (bytes a.head.now) s a.keys.low a.keys.high a.keys.letter) 0 a.layout.slots a.layout.slots c.find.ensures.ran (cc) (omega arith) (λ x t q k. search (rules, tests))

-- `slots::empty_slot` meets its contract: `find` over the slots finds the lowest empty one.
-- By the library's law for `find` over a range. Assumes nothing.
use Rattle.std.proofs.Common.{arith, rules, not}
use borrow.Author.Tests.{tests}
use Rattle.image.specs.Image.{view_of}
use Rattle.laws.proofs.Ranges.{find_told}
use Rattle.laws.specs.Reader.{bytes}
use Rattle.view.specs.Disk.{used}
use Rattle.slots.proofs.empty_slot.Goals as goal

pub returns : goal.returns
returns c =
    let a = c.args in
    find_told _ (λ s. not (used ((view_of a.layout (bytes a.head.now)).entry s))) 0 a.layout.slots a.layout.slots c.find.ensures.ran (cc) (omega arith) (λ x t q k. search (rules, tests))

-- `chains::system_fault` meets its contract: `find` over the system blocks finds the lowest with another value.
-- By the library's law for `find` over a range. Assumes nothing.
use Rattle.std.proofs.Common.{arith, rules}
use borrow.Author.Tests.{tests}
use Rattle.image.specs.Image.{view_of}
use Rattle.laws.proofs.Ranges.{find_told}
use Rattle.laws.specs.Reader.{bytes}
use Rattle.view.specs.Rules.{bad_system}
use Rattle.chains.proofs.system_fault.Goals as goal

pub returns : goal.returns
unfolding bad_system
returns c =
    let l = c.args.head.layout in
    find_told _ (bad_system l (view_of l (bytes c.args.head.bytes.now))) 0 l.system l.system c.find.ensures.ran (cc) (omega arith) (λ x t q k. search (rules, tests))

-- `chains::stray_fault` meets its contract: `find` over the data blocks finds the lowest stray one.
-- By the library's law for `find` over a range. Assumes nothing.
use Rattle.std.proofs.Common.{refl, rules, ◌-◌}
use borrow.Author.Tests.{tests}
use Rattle.image.specs.Image.{view_of}
use Rattle.laws.proofs.Ranges.{find_told}
use Rattle.laws.specs.Reader.{bytes}
use Rattle.view.specs.Rules.{stray}
use Rattle.chains.proofs.stray_fault.Goals as goal

pub returns : goal.returns
returns c =
    let l = c.args.head.layout in
    find_told _ (stray l (view_of l (bytes c.args.head.bytes.now))) l.first l.blocks (l.blocks - l.first) c.find.ensures.ran (cc) refl (λ x t q k. search (rules, tests))

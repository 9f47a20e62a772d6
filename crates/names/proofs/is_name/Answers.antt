-- `names::is_name` meets its contract: the length decides, and then `all` over the name is the test of each byte.
-- By the library's law for `all` over a slice. Assumes nothing.
use Rattle.std.proofs.Common.{refl, ◌∙◌, rules, length, eq-eqb, ne_eqb}
use borrow.Author.Tests.{tests}
use Rattle.names.specs.Names.{given_byte, legal_name}
use Rattle.laws.proofs.Tests.{all_told}
use Rattle.names.proofs.is_name.Goals as goal

pub returns-then-name-layout : goal.returns-then-name-layout
unfolding legal_name
returns-then-name-layout c =
    all_told (given_byte c.args.layout) c.args.name.now c.all.ensures.ran (cc) (λ x b q k. search (rules, tests))
    ∙ rw (eq-eqb (length c.args.name.now) c.args.layout.letters c.if-name-layout.true) refl

pub returns-else-name-layout : goal.returns-else-name-layout
unfolding legal_name
returns-else-name-layout c = rw (ne_eqb (length c.args.name.now) c.args.layout.letters c.if-name-layout.false) refl

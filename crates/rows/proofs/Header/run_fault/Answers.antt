-- `rows::Header::run_fault` meets its contract: the place of the first number that breaks the rule.
-- By what `find` says of a range, and `map` of what it found. Assumes nothing.
use Rattle.std.specs.Prelude.{◌≡◌, true, false}
use Rattle.std.proofs.Common.{rules, tests}
use Rattle.std.proofs.lemmas.Iterator.{first_from_Range}
use Rattle.rows.specs.Rows.{breaks}
use Rattle.rows.proofs.Lemmas.Arms.{run_found}
use Rattle.rows.proofs.Header.run_fault.Goals as goal

pub returns : goal.returns
returns c =
    let f = breaks c.args.self.content.now c.args.self.base c.args.run in
    let found = first_from_Range _ _ _ c.find.result (λ j. f j ≡ true) (λ j. f j ≡ false) c.find.ensures.ran (λ x q k. search (rules, tests)) (λ x q k. (search rules, search (rules, tests))) in
    run_found c.args.self.content.now c.args.self.base c.args.run c.from.ensures c.find.result c.map.result found (search rules)

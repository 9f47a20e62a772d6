-- `mend::name_kept` meets its contract: `any` over the lower slots is the test of each of them.
-- By the library's law for `any` over a range; a lower slot has the keys exactly if it has name and type. Assumes nothing.
use Rattle.std.proofs.Common.{ap, ◌∙◌, arith, rules, refl}
use borrow.Author.Tests.{tests}
use Rattle.laws.proofs.Ranges.{any_passed}
use Rattle.laws.specs.Lemmas.Scan.{any_cong}
use Rattle.laws.specs.Reader.{bytes}
use Rattle.laws.specs.Truth.{both}
use Rattle.mend.specs.Steps.{is_kept, kept_name}
use Rattle.slots.specs.Keys.{has_keys}
use Rattle.slots.specs.Lemmas.Keys.{keyed_name}
use Rattle.mend.proofs.name_kept.Goals as goal

pub returns : goal.returns
unfolding kept_name
returns c =
    let a = c.args in
    let b = bytes a.image.bytes.now in
    let k = c.of_slot-keys.result in
    any_passed (λ s. both (is_kept a.report.now s) (has_keys a.image.layout b s k.low k.high k.letter)) 0 a.slot a.slot c.any.ensures.ran (cc) (omega arith) (λ x t q m. search (rules, tests))
    ∙ any_cong _ _ 0 a.slot (λ s p q. ap (both (is_kept a.report.now s)) (keyed_name a.image.layout b a.slot s c.of_slot-keys.ensures refl))

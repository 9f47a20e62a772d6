-- `samples::lowest_outside` meets its contract: the position of the first word that is not held.
-- By what `position` says of a slice, each word as the code reads it. Assumes nothing.
use Rattle.std.specs.Prelude.{◌≡◌, Bool, true, false, ℤ}
use Rattle.std.proofs.Common.{sym, ap, ◌∙◌, rules, tests, FitsSigned, w16, to_z, of_z}
use Rattle.std.proofs.lemmas.Iterator.{IsFirst-from_position, YieldsList-from_slice}
use Rattle.words.specs.Words.{holds}
use Rattle.words.specs.Lemmas.Signed.{read_back}
use Rattle.samples.specs.Lemmas.Steps.{outside_found}
use Rattle.samples.proofs.lowest_outside.Goals as goal

as_read : (w : ℤ) (t : Bool) → FitsSigned w16 w → holds 4096 (to_z w16 (of_z w16 w)) ≡ t → holds 4096 w ≡ t
as_read w t f e = sym (ap (holds 4096) (read_back w f)) ∙ e

pub returns : goal.returns
returns c =
    outside_found c.args.words.now c.position.result
    (IsFirst-from_position _ _ c.position.result (λ w. holds 4096 w ≡ false) (λ w. holds 4096 w ≡ true) c.position.ensures.ran (YieldsList-from_slice c.args.words.now cc)
    (λ x q k. as_read x.now false (search (rules, tests)) (search (rules, tests)))
    (λ x q k. (search rules, as_read x.now true (search (rules, tests)) (search (rules, tests)))))

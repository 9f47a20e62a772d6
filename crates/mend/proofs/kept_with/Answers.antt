-- `mend::kept_with` meets its contract: a slot without the keys is none, of any other the report decides.
-- By the keys. Assumes nothing.
use Rattle.std.proofs.Common.{sym, ◌∙◌}
use Rattle.laws.specs.Lemmas.Truth.{false_both}
use Rattle.mend.specs.Steps.{is_kept}
use Rattle.slots.specs.Lemmas.Keys.{both_when}
use Rattle.mend.proofs.kept_with.Goals as goal

pub returns-then-has_keys : goal.returns-then-has_keys
returns-then-has_keys c =
    let a = c.args in
    sym (both_when (is_kept a.report.now a.slot) _ (sym c.has_keys.ensures ∙ c.if-has_keys.true))

pub returns-else-has_keys : goal.returns-else-has_keys
returns-else-has_keys c =
    let a = c.args in
    c.if-has_keys.false ∙ sym (false_both (is_kept a.report.now a.slot) _ (λ k. sym c.has_keys.ensures ∙ c.if-has_keys.false))

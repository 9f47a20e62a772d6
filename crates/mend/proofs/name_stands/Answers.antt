-- `mend::name_stands` meets its contract: where no used slot below has name and type no kept one has them, and else they are gone through.
-- A kept slot is a used one. Assumes nothing.
use Rattle.std.proofs.Common.{sym, ◌∙◌}
use Rattle.mend.specs.Lemmas.Verdicts.{kept_none}
use Rattle.mend.proofs.name_stands.Goals as goal

pub returns-else-twice : goal.returns-else-twice
returns-else-twice c = c.if-twice.false ∙ sym (kept_none _ _ _ _ c.requires.2 (sym c.requires.3 ∙ c.if-twice.false))

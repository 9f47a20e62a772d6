-- `chains::is_stray` meets its contract: a block's mark says whether a chain has it.
-- By opening the test for a stray block. Assumes nothing.
use Rattle.std.proofs.Common.{refl, sym, ◌∙◌, eq-eqb, ne_eqb, arith}
use Rattle.view.specs.Rules.{stray}
use Rattle.chains.proofs.is_stray.Goals as goal

pub returns-then-map_at-ne0 : goal.returns-then-map_at-ne0
unfolding stray
returns-then-map_at-ne0 c =
    let p = c.requires in
    rw (ne_eqb _ _ (λ e. c.if-map_at-ne0.true (c.map_at.ensures ∙ e)), p.1.mark c.args.block (omega (arith, c.args.head.right.blocks_most)))

pub returns-else-map_at-ne0 : goal.returns-else-map_at-ne0
unfolding stray
returns-else-map_at-ne0 c = rw (eq-eqb c.map_at.result 0 c.if-map_at-ne0.false, eq-eqb _ _ (sym c.map_at.ensures ∙ c.if-map_at-ne0.false)) refl

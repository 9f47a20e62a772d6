-- `chains::count_free` meets its contract: the free blocks counted and those of the blocks left are all of them.
-- Each turn is one law of a count. Assumes nothing.
use Rattle.chains.proofs.count_free.Invariants.{is_free}
use Rattle.chains.proofs.count_free.Goals.{then-map_at-eq0, else-map_at-eq0}
use Rattle.std.proofs.Common.{sym, ◌∙◌, arith, eq-eqb, ne_eqb}
use Rattle.laws.specs.Lemmas.Scan.{count_end, count_stop, count-on}
use Rattle.map.specs.Map.{free_count}
use Rattle.chains.proofs.count_free.Goals as goal

pub loop-block-preserved : goal.loop-block-preserved
loop-block-preserved c =
    let free = is_free c.args.head.bytes.now in
    let e = c.map_at.ensures in
    elim c.if-map_at-eq0.branch [ then-map_at-eq0 w ↦ (omega arith, omega (arith, count_stop free _ _ c.loop-block-test.true (eq-eqb _ _ (sym e ∙ w.if-map_at-eq0.true)))) | else-map_at-eq0 w ↦ (omega arith, omega (arith, count-on free _ _ c.loop-block-test.true (ne_eqb _ _ (λ z. w.if-map_at-eq0.false (e ∙ z))))) ]

pub returns : goal.returns
unfolding free_count
returns c = omega (arith, count_end (is_free c.args.head.bytes.now) _ _ c.loop-block-test.false)

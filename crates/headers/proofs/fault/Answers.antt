-- `headers::fault` meets its contract, for every table at once: the fault of the first row that has one.
-- By what the rows from the one in hand on give. Assumes nothing.
use Rattle.std.proofs.Common.{refl, sym, ap, ◌∙◌}
use Rattle.rows.specs.Rows.{rows_fault}
use Rattle.rows.proofs.Lemmas.Arms.{rows_stop, rows_on, rows_clean}
use Rattle.headers.proofs.fault.Goals as goal

pub returns-then-is_some : goal.returns-then-is_some
returns-then-is_some c = rows_stop _ _ _ _ _ c.loop-row.invariant c.loop-row-test.true refl c.row_fault-fault.ensures (sym c.is_some.ensures ∙ c.if-is_some.true) ∙ ap (rows_fault c.args.header.now c.args.base) c.rows_of-row-items.ensures

pub loop-row-preserved : goal.loop-row-preserved
loop-row-preserved c = rows_on _ _ _ _ _ c.loop-row.invariant c.loop-row-test.true refl c.row_fault-fault.ensures (sym c.is_some.ensures ∙ c.if-is_some.false)

pub returns : goal.returns
returns c = rows_clean _ _ _ _ c.loop-row.invariant c.loop-row-test.false ∙ ap (rows_fault c.args.header.now c.args.base) c.rows_of-row-items.ensures

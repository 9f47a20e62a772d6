-- `program::parts_fault` meets its contract: the fault of the first part that has one.
-- By what the parts from the one in hand on give. Assumes nothing.
use Rattle.std.proofs.Common.{refl, sym, ◌∙◌}
use Rattle.program.specs.Lemmas.Arms.{parts_end}
use Rattle.program.proofs.Lemmas.Arms.{part_stop, part-on}
use Rattle.program.proofs.parts_fault.Goals as goal

pub returns-then-is_some : goal.returns-then-is_some
returns-then-is_some c = part_stop _ _ _ _ c.loop-part.invariant c.loop-part-test.true refl refl c.table_of.ensures c.fault-fault.ensures (sym c.is_some.ensures ∙ c.if-is_some.true)

pub loop-part-preserved : goal.loop-part-preserved
loop-part-preserved c = part-on _ _ _ _ c.loop-part.invariant c.loop-part-test.true refl refl c.table_of.ensures c.fault-fault.ensures (sym c.is_some.ensures ∙ c.if-is_some.false)

pub returns : goal.returns
returns c = parts_end _ _ _ c.loop-part.invariant c.loop-part-test.false

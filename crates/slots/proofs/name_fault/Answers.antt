-- `slots::name_fault` meets its contract: the lowest slot of those left with a lower slot's name and type is that of all, and the table has the slots below it.
-- One search, by its laws; each turn hands the table on. Assumes nothing.
use Rattle.std.proofs.Common.{arith, rules}
use Rattle.laws.specs.Reader.{bytes}
use Rattle.laws.specs.Lemmas.Search.{searched_none}
use Rattle.laws.proofs.Lemmas.Search.{searched_found, searched_more, searched_all}
use Rattle.slots.proofs.name_fault.Goals as goal

pub loop-slot-init : goal.loop-slot-init
loop-slot-init c = let none = c.new-table.ensures c.args.layout (bytes c.args.head.now) in (searched_none _ _, none.0, none.1)

pub repeats-requires : goal.repeats-requires
repeats-requires c = let k = c.loop-slot.invariant in (search rules, search rules, k.1, k.2)

pub returns-then-repeats : goal.returns-then-repeats
returns-then-repeats c = searched_found _ _ _ c.loop-slot.invariant.0 (omega arith) c.repeats.ensures.answer c.if-repeats.true

pub loop-slot-preserved : goal.loop-slot-preserved
loop-slot-preserved c =
    let turn = c.repeats.ensures in
    (searched_more _ _ _ c.loop-slot.invariant.0 (omega arith) turn.answer c.if-repeats.false, turn.tops_on, turn.lowers_on)

pub returns : goal.returns
returns c = searched_all _ _ _ c.loop-slot.invariant.0 (omega arith)

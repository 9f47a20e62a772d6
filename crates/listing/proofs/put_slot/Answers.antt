-- `listing::put_slot` meets its contract: nothing of an empty slot, and of a used one the slot's number and what list answers.
-- The slot is below 512, so its number has at most three digits. Assumes nothing.
use Rattle.std.proofs.Common.{arith}
use Rattle.listing.specs.Lemmas.Puts.{puts_none, puts_near, puts_then, decimal_short}
use Rattle.listing.specs.Lines.{slot_empty, slot_used}
use Rattle.listing.specs.Listing.{slot_line}
use Rattle.listing.proofs.put_slot.Goals as goal

pub returns-then-not-is_used : goal.returns-then-not-is_used
unfolding slot_line
returns-then-not-is_used c =
    let a = c.args in
    rw (slot_empty a.head.layout a.head.bytes.now a.slot c.is_used.ensures (c.if-not-is_used.true)) (puts_near puts_none 47 (omega arith))

pub returns : goal.returns
unfolding slot_line
returns c =
    let a = c.args in
    let number = puts_near c.put_number-next.ensures 8 (omega (arith, c.put_number-next.ensures.count, decimal_short 2 a.slot (omega (arith, c.requires.0, a.head.right.slots_few)))) in
    rw (slot_used a.head.layout a.head.bytes.now a.slot c.is_used.ensures a.head.right (omega (arith, c.requires.0, a.head.right.directory_low, a.head.long)) (c.if-not-is_used.false) c.type_of-byte.ensures c.size_of-size.ensures c.name_of-name.ensures)
    (puts_then (puts_then number c.put-next.ensures) c.put_file.ensures)

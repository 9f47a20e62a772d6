-- `listing::put_slots` meets its contract: the lines of the layout's slots, in order.
-- The invariant: the output holds those of the slots passed, of at most 47 bytes each. Assumes nothing.
use Rattle.std.proofs.Common.{◌*◌}
use Rattle.laws.specs.Reader.{bytes}
use Rattle.listing.specs.Lines.{slot_answer}
use Rattle.listing.specs.Listing.{slot_lines}
use Rattle.listing.specs.Puts.{Puts}
use Rattle.listing.proofs.put_slots.Given as goal

abbrev pub invariant-loop-slot : goal.invariant-loop-slot
invariant-loop-slot l = Puts (47 * l.slot) (slot_lines (slot_answer l.head.layout (bytes l.head.bytes.now)) l.slot) l.at l.initial.out l.out l.next

-- `listing::put_slots` meets its contract: the lines of the layout's slots, in order.
-- The invariant: the output holds those of the slots passed, of at most 47 bytes each. Assumes nothing.
use Rattle.std.proofs.Common.{◌≡◌, suc, ◌*◌, add-one, arith}
use Rattle.listing.specs.Lemmas.Puts.{puts_none, puts_near, puts_then}
use Rattle.listing.specs.Listing.{slot_lines}
use Rattle.listing.proofs.put_slots.Goals as goal

pub loop-slot-init : goal.loop-slot-init
unfolding slot_lines
loop-slot-init c = puts_none

pub loop-slot-preserved : goal.loop-slot-preserved
unfolding slot_lines
loop-slot-preserved c =
    let l = c.loop-slot in
    let p = puts_then l.invariant c.put_slot-next.ensures in
    rw (add-one l.slot) (puts_near p (47 * suc l.slot) (omega (arith, p.near)))

pub returns : goal.returns
returns c =
    let l = c.loop-slot in
    let e : l.slot ≡ c.args.head.layout.slots = omega arith in
    rw e at (puts_near l.invariant 24064 (omega (arith, l.invariant.near, c.args.head.right.slots_few)))

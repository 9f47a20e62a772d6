-- `locate::slot_blocks` meets its contract: 10 for a slot without a file, 21 for a short output, else the blocks of its chain.
-- A used slot of an accepted image has a faultless chain, which is collected and copied. Assumes nothing.
use Rattle.std.proofs.Common.{◌≡◌, sym, ap, ◌∙◌, arith, length}
use Rattle.calls.specs.Accepts.{right_of, rules_of, first_inside}
use Rattle.calls.specs.Lemmas.Paging.{size_some, slot_chained}
use Rattle.changes.specs.Lemmas.Lent.{slice-all}
use Rattle.locate.specs.Lemmas.Locate.{blocks_above, blocks_empty, blocks_short}
use Rattle.locate.proofs.Lemmas.Locate.{blocks_all}
use Rattle.locate.proofs.slot_blocks.Goals.{then-slot-layout-via-then-slot-layout, then-slot-layout-via-else-slot-layout+then-not-is_used}
use Rattle.locate.proofs.slot_blocks.Goals as goal

pub invariant_of-head : goal.invariant_of-head
invariant_of-head c = record { right = right_of _ _ c.args.disk.now.accepted; long = first_inside _ _ c.args.disk.now.accepted }

pub returns-then-slot-layout : goal.returns-then-slot-layout
returns-then-slot-layout c =
    let a = c.args in
    elim c.then-slot-layout.branch [
      | then-slot-layout-via-then-slot-layout w ↦ blocks_above a.disk.now.layout a.disk.now.image.now a.slot a.out.now w.if-slot-layout.true
      | then-slot-layout-via-else-slot-layout+then-not-is_used w ↦ blocks_empty a.disk.now.layout a.disk.now.image.now a.slot a.out.now (omega arith) (sym w.is_used.ensures ∙ w.if-not-is_used.true)
    ]

pub overflow_sub-size : goal.overflow_sub-size
overflow_sub-size c =
    let here = sym c.is_used.ensures ∙ c.if-not-is_used.false in
    omega (arith, size_some c.args.disk.now.layout (right_of _ _ c.args.disk.now.accepted) c.args.disk.now.image.now (rules_of _ _ c.args.disk.now.accepted) c.args.slot (omega arith) here c.size_of-size.ensures)

pub chain_blocks-chain-requires : goal.chain_blocks-chain-requires
chain_blocks-chain-requires c =
    let here = sym c.is_used.ensures ∙ c.if-not-is_used.false in (
      omega (arith, (right_of _ _ c.args.disk.now.accepted).map-low, (right_of _ _ c.args.disk.now.accepted).data_some, (rules_of _ _ c.args.disk.now.accepted).size),
      (right_of _ _ c.args.disk.now.accepted),
      slot_chained c.args.disk.now.layout (right_of _ _ c.args.disk.now.accepted) c.args.disk.now.image.now (rules_of _ _ c.args.disk.now.accepted) c.args.slot (omega arith) here c.size_of-size.ensures c.start_of-start.ensures,
    )

pub returns-then-out-listed : goal.returns-then-out-listed
returns-then-out-listed c =
    let a = c.args in
    let r = c.chain_blocks-chain in
    let here = sym c.is_used.ensures ∙ c.if-not-is_used.false in
    let lent = c.as_slice-listed.ensures ∙ slice-all _ r.result r.ensures in
    blocks_short a.disk.now.layout a.disk.now.image.now a.slot (omega arith) here c.size_of-size.ensures c.start_of-start.ensures r.result r.ensures a.out.now (omega (arith, c.if-out-listed.true, ap length lent, r.ensures.count))

pub returns : goal.returns
returns c =
    let a = c.args in
    let r = c.chain_blocks-chain in
    let here = sym c.is_used.ensures ∙ c.if-not-is_used.false in
    let lent = c.as_slice-listed.ensures ∙ slice-all _ r.result r.ensures in
    let n : length c.as_slice-listed.result.now ≡ r.result.count = ap length lent ∙ sym r.ensures.count in
    rw n (blocks_all a.disk.now.layout a.disk.now.image.now a.slot (omega arith) here c.size_of-size.ensures c.start_of-start.ensures r.result r.ensures a.out.now (omega arith) lent c.copy_blocks.ensures)

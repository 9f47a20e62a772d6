-- `chains::count_chained` meets its contract: the blocks counted are those of the slots below.
-- No chain is broken, so each is short, and a slot adds its links and one. Assumes nothing.
use Rattle.std.proofs.Common.{◌≡◌, refl, sym, ◌∙◌, arith}
use Rattle.chains.specs.Lemmas.Tally.{owned_empty, owned-used, links_few}
use Rattle.image.specs.Image.{view_of}
use Rattle.laws.specs.Reader.{bytes}
use Rattle.view.specs.Disk.{owned}
use Rattle.chains.proofs.count_chained.Goals.{then-is_used, else-is_used}
use Rattle.chains.proofs.count_chained.Goals as goal

pub loop-slot-init : goal.loop-slot-init
unfolding owned
loop-slot-init c = (refl, omega arith)

pub overflow_add-blocks : goal.overflow_add-blocks
overflow_add-blocks c =
    let p = c.requires in
    omega (arith, links_few _ c.args.head.right _ p _ c.loop-slot-test.true (sym c.is_used.ensures ∙ c.if-is_used.true) c.links_of.ensures)

pub overflow_add-blocks-then-is_used : goal.overflow_add-blocks-then-is_used
overflow_add-blocks-then-is_used c =
    let p = c.requires in
    omega (arith, links_few _ c.args.head.right _ p _ c.loop-slot-test.true (sym c.is_used.ensures ∙ c.if-is_used.true) c.links_of.ensures, c.loop-slot.invariant.1, c.args.head.right.slots_few)

pub loop-slot-preserved : goal.loop-slot-preserved
loop-slot-preserved c =
    let i = c.loop-slot.invariant in
    let p = c.requires in
    elim c.if-is_used.branch [
      | then-is_used w ↦
          let u = sym c.is_used.ensures ∙ w.if-is_used.true in
          let few = links_few _ c.args.head.right _ p _ c.loop-slot-test.true u w.links_of.ensures in
          rw w.blocks-is
          (omega (arith, i.0, owned-used (view_of c.args.head.layout (bytes c.args.head.bytes.now)) c.loop-slot.slot u w.links_of.ensures), omega (arith, few, i.1))
      | else-is_used w ↦ rw w.blocks-is (i.0 ∙ sym (owned_empty _ _ (sym c.is_used.ensures ∙ w.if-is_used.false)), omega (arith, i.1))
    ]

pub returns : goal.returns
returns c =
    let z : c.loop-slot.slot ≡ c.args.head.layout.slots = omega arith in
    rw z at c.loop-slot.invariant.0

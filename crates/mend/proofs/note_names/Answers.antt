-- `mend::note_names` meets its contract: the slots below the one in hand are noted, and the table has them; those past the used ones have zeros.
-- Each turn notes one slot more. Assumes nothing.
use Rattle.std.proofs.Common.{◌≡◌, refl, ap, ◌∙◌, Bool, arith}
use Rattle.laws.specs.Reader.{bytes}
use Rattle.laws.specs.Truth.{pick}
use Rattle.mend.specs.Lemmas.Verdicts.{reported_none, reported_turn, few, noted_above}
use Rattle.mend.specs.Lemmas.Setting.{told}
use Rattle.mend.proofs.note_names.Goals as goal

pub overflow_sub-rest : goal.overflow_sub-rest
overflow_sub-rest c = omega (arith, few c.args.image.layout c.args.image.bytes.now c.requires.1)

pub loop-slot-init : goal.loop-slot-init
loop-slot-init c = let none = c.new-table.ensures c.args.image.layout (bytes c.args.image.bytes.now) in (reported_none _ _, none.0, none.1)

pub repeats-twice-requires : goal.repeats-twice-requires
repeats-twice-requires c =
    let low = few c.args.image.layout c.args.image.bytes.now c.requires.1 in
    let k = c.loop-slot.invariant in
    (omega (arith, c.args.image.long, c.args.image.right.directory_low, low), omega (arith, c.args.image.right.slots_few, low), k.1, k.2)

pub bounds-report-slot : goal.bounds-report-slot
bounds-report-slot c = omega (arith, few c.args.image.layout c.args.image.bytes.now c.requires.1, c.requires.0, c.loop-slot.invariant.0.size)

pub loop-slot-preserved : goal.loop-slot-preserved
loop-slot-preserved c =
    let turn = c.repeats-twice.ensures in
    (reported_turn _ _ _ _ _ (omega (arith, c.requires.0, few c.args.image.layout c.args.image.bytes.now c.requires.1)) (c.from.ensures ∙ told _ ∙ ap (λ (x : Bool). pick x 1 0) turn.answer) c.loop-slot.invariant.0, turn.tops_on, turn.lowers_on)

pub clear-requires : goal.clear-requires
clear-requires c = omega (arith, few c.args.image.layout c.args.image.bytes.now c.requires.1, c.requires.0, c.loop-slot.invariant.0.size)

pub returns : goal.returns
returns c =
    let k = c.loop-slot in
    let z : k.slot ≡ c.args.end = omega (arith, c.loop-slot-test.false) in
    rw c.clear.ensures (noted_above _ _ _ _ c.requires.1 refl c.requires.0 (rw z at k.invariant.0))

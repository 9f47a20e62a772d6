-- `mend::judge` meets its contract: once the slots below the one in hand were judged, the report says so of them and the marks are those of the kept chains.
-- Each turn judges one slot more; the slots past the used ones are empty, and noted so. Assumes nothing.
use Rattle.std.proofs.Common.{◌≡◌, ◌∙◌, ℕ, ◌+◌, ◌-◌, arith}
use Rattle.std.proofs.lemmas.List.{length-replicate}
use Rattle.image.specs.Image.{view_of}
use Rattle.laws.specs.Reader.{bytes}
use Rattle.map.specs.Lemmas.Marks.{marks_none}
use Rattle.mend.specs.Lemmas.Verdicts.{reported_none, reported_turn, few, reported_on, reported_over, reported_all, noted_twice, above_noted, above_marks}
use Rattle.salvage.specs.Salvage.{report_after}
use Rattle.view.specs.Disk.{owned}
use Rattle.mend.proofs.judge.Goals as goal

pub loop-slot-init : goal.loop-slot-init
unfolding owned
loop-slot-init c = (reported_none _ _, length-replicate {A = ℕ} 1600 0, rw c.requires.1 (marks_none 1600))

pub bounds-report-slot : goal.bounds-report-slot
bounds-report-slot c =
    omega (arith, few c.args.image.layout c.args.image.bytes.now c.used_end-end.ensures, c.requires.0, c.loop-slot.invariant.0.size, c.note_names.ensures.size)

pub verdict_of-verdict-requires : goal.verdict_of-verdict-requires
verdict_of-verdict-requires c =
    let low = few c.args.image.layout c.args.image.bytes.now c.used_end-end.ensures in
    let k = c.loop-slot in
    let i = k.invariant in
    let p = c.requires in (
      omega (arith, low),
      omega (arith, p.0, i.0.size, c.note_names.ensures.size),
      i.1,
      noted_twice _ _ _ _ (i.0.kept k.slot (omega arith) ∙ c.note_names.ensures.said k.slot (omega (arith, low))),
      record { said = i.0.said; chains = i.2 },
    )

pub mark_kept-requires : goal.mark_kept-requires
mark_kept-requires c =
    let w = c.verdict_of-verdict.ensures in
    (omega (arith, few c.args.image.layout c.args.image.bytes.now c.used_end-end.ensures), w.value, w.noted, c.loop-slot.invariant.2)

pub bounds-report-slot-in-loop-slot : goal.bounds-report-slot-in-loop-slot
bounds-report-slot-in-loop-slot c =
    omega (arith, few c.args.image.layout c.args.image.bytes.now c.used_end-end.ensures, c.requires.0, c.loop-slot.invariant.0.size, c.note_names.ensures.size)

pub loop-slot-preserved : goal.loop-slot-preserved
loop-slot-preserved c =
    let w = c.verdict_of-verdict.ensures in
    let low = few c.args.image.layout c.args.image.bytes.now c.used_end-end.ensures in
    (reported_turn _ _ _ _ _ (omega (arith, low, c.requires.0, c.note_names.ensures.size)) w.value c.loop-slot.invariant.0, w.noted.size, c.mark_kept.ensures)

pub returns : goal.returns
unfolding report_after
returns c =
    let a = c.args in
    let v = view_of a.image.layout (bytes a.image.bytes.now) in
    let last = c.used_end-end.ensures in
    let low = few a.image.layout a.image.bytes.now last in
    let noted = c.note_names.ensures in
    let end = c.used_end-end.result in
    let z : c.loop-slot.slot ≡ end = omega (arith, c.loop-slot-test.false) in
    let i = rw z at c.loop-slot.invariant in
    let w : end + (a.image.layout.slots - end) ≡ a.image.layout.slots = omega (arith, low) in
    let said = reported_on _ _ _ _ a.image.layout.slots low (λ t h i. noted.said t i ∙ above_noted a.image.layout v a.image.layout.slots last t h i) i.0 in
    record {
      report_after = reported_all _ _ _ _ c.requires.0 (reported_over _ _ _ _ _ _ noted said);
      marks = rw w at (above_marks a.image.layout v a.image.layout.slots last _ (a.image.layout.slots - end) (omega (arith, low)) i.2);
      value = last;
    }

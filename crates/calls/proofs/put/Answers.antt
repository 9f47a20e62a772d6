-- `calls::put` meets its contract: a refused image answers the check's refusal, a refused put the record's, and a granted one leaves put's image.
-- The check's answer is taken apart, then the judgement. Assumes nothing.
use Rattle.std.proofs.Common.{refl, ap, ◌∙◌, List, ℕ}
use Rattle.std.proofs.lemmas.Result.{err_from_is_err_and}
use Rattle.calls.specs.Accepts.{accepted_by}
use Rattle.calls.specs.Answers.{put_call}
use Rattle.calls.specs.Lemmas.Answers.{call_refused}
use Rattle.calls.specs.Lemmas.Done.{done-right, done-free, put_refused, put_legal, put_needs, put_granted}
use Rattle.changes.specs.Changes.{put_area}
use Rattle.changes.specs.Lemmas.Changes.{put_area_is}
use Rattle.calls.proofs.put.Goals as goal

pub returns-in_default : goal.returns-in_default
returns-in_default c = call_refused _ (put_call c.args.name.now c.args.letter c.args.content.now) c.check-checked.ensures c.unwrap_err.ensures

pub invariant_of-judge_put : goal.invariant_of-judge_put
invariant_of-judge_put c = record { accepted = accepted_by _ c.check-checked.ensures c.in-Ok.is c.layout_of-layout.ensures }

pub judge_put-requires : goal.judge_put-requires
judge_put-requires c = done-free _ c.check-checked.ensures c.in-Ok.is c.layout_of-layout.ensures

pub returns-in_err-slot : goal.returns-in_err-slot
returns-in_err-slot c =
    let a = c.args in
    let refused = err_from_is_err_and c.from_residual.result c.from_residual.ensures.1 in
    rw (refused.1, refused.2)
    (put_refused _ c.check-checked.ensures c.in-Ok.is c.layout_of-layout.ensures a.name.now a.letter a.content.now (c.judge_put.ensures a.content.now refl) c.in_err-slot.was)

pub area_of-area-requires : goal.area_of-area-requires
area_of-area-requires c =
    let a = c.args in
    let yes = c.in-Ok.is in
    let made = c.layout_of-layout.ensures in
    (done-right _ c.check-checked.ensures yes made, put_legal _ c.check-checked.ensures yes made a.name.now a.letter a.content.now (c.judge_put.ensures a.content.now refl) c.in_ok-slot.was)

pub put_slot-requires : goal.put_slot-requires
put_slot-requires c =
    let a = c.args in
    put_needs _ c.check-checked.ensures c.in-Ok.is c.layout_of-layout.ensures a.name.now a.letter a.content.now (c.judge_put.ensures a.content.now refl) c.in_ok-slot.was

pub returns : goal.returns
returns c =
    let a = c.args in
    let img = a.image.now in
    let l = c.layout_of-layout.result in
    put_granted img c.check-checked.ensures c.in-Ok.is c.layout_of-layout.ensures a.name.now a.letter a.content.now (c.judge_put.ensures a.content.now refl) c.in_ok-slot.was
    (c.put_slot.ensures ∙ ap (λ (area : List ℕ). put_area l img c.in_ok-slot.slot area a.letter a.content.now) c.area_of-area.ensures ∙ put_area_is l img _ a.name.now a.letter a.content.now)

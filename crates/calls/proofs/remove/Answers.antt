-- `calls::remove` meets its contract: a refused image answers the check's refusal, a refused remove the record's, and a granted one leaves remove's image.
-- The check's answer is taken apart, then the judgement. Assumes nothing.
use Rattle.std.proofs.lemmas.Result.{err_from_is_err_and}
use Rattle.calls.specs.Accepts.{accepted_by}
use Rattle.calls.specs.Answers.{remove_call}
use Rattle.calls.specs.Lemmas.Answers.{call_refused}
use Rattle.calls.specs.Lemmas.Done.{remove_needs, remove_refused, remove_granted}
use Rattle.calls.proofs.remove.Goals as goal

pub returns-in_default : goal.returns-in_default
returns-in_default c = call_refused _ (remove_call c.args.name.now c.args.letter) c.check-checked.ensures c.unwrap_err.ensures

pub invariant_of-judge_name : goal.invariant_of-judge_name
invariant_of-judge_name c = record { accepted = accepted_by _ c.check-checked.ensures c.in-Ok.is c.layout_of-layout.ensures }

pub remove_slot-requires : goal.remove_slot-requires
remove_slot-requires c = remove_needs _ c.check-checked.ensures c.in-Ok.is c.layout_of-layout.ensures _ _ c.judge_name.ensures c.in_ok-slot.was

pub returns-in_err-slot : goal.returns-in_err-slot
returns-in_err-slot c =
    let refused = err_from_is_err_and c.from_residual.result c.from_residual.ensures.1 in
    rw (refused.1, refused.2) (remove_refused _ c.check-checked.ensures c.in-Ok.is c.layout_of-layout.ensures _ _ c.judge_name.ensures c.in_err-slot.was)

pub returns : goal.returns
returns c = remove_granted _ c.check-checked.ensures c.in-Ok.is c.layout_of-layout.ensures _ _ c.judge_name.ensures c.in_ok-slot.was c.remove_slot.ensures

-- `calls::find` meets its contract: a refused image answers the check's refusal, an accepted one what the record says.
-- The check's answer is taken apart, and the layout is that of its kind and density. Assumes nothing.
use Rattle.calls.specs.Accepts.{accepted_by}
use Rattle.calls.specs.Answers.{find_call}
use Rattle.calls.specs.Made.{FindMade}
use Rattle.calls.specs.Lemmas.Answers.{call_refused}
use Rattle.calls.specs.Lemmas.Done.{find_done}
use Rattle.calls.proofs.find.Goals as goal

pub returns-in_default : goal.returns-in_default
returns-in_default c = call_refused _ (find_call c.args.name.now c.args.letter) c.check-checked.ensures c.unwrap_err.ensures

pub invariant_of-judge_name : goal.invariant_of-judge_name
invariant_of-judge_name c = record { accepted = accepted_by _ c.check-checked.ensures c.in-Ok.is c.layout_of-layout.ensures }

pub returns : goal.returns
returns c =
    let made : FindMade c.args.image.now c.args.name.now c.args.letter c.judge_name.result = find_done _ c.check-checked.ensures c.in-Ok.is c.layout_of-layout.ensures _ _ c.judge_name.ensures in
    made

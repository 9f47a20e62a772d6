-- `calls::accepted::Disk::judge_put` meets its contract: 11, 13, 12, 14, 15 and 16 in this order, else the lowest empty slot.
-- Each test decides the cascade's next step, whatever the content of that length is. Assumes nothing.
use Rattle.std.proofs.Common.{sym, ◌∙◌}
use Rattle.std.proofs.lemmas.Result.{err_from_is_err_and}
use Rattle.calls.specs.Accepts.{right_of, rules_of, first_inside}
use Rattle.calls.specs.Lemmas.Putting.{put_illegal, put_empty, put_taken, put_none, put_some, put_room}
use Rattle.calls.proofs.accepted.Disk.judge_put.Goals as goal

pub returns-then-not-is_legal : goal.returns-then-not-is_legal
returns-then-not-is_legal c = λ content long. put_illegal _ (right_of _ _ c.args.self.now.accepted) _ (rules_of _ _ c.args.self.now.accepted) _ _ content long (sym c.is_legal.ensures ∙ c.if-not-is_legal.true)

pub returns-then-size-eq0 : goal.returns-then-size-eq0
returns-then-size-eq0 c =
    λ content long. put_empty _ (right_of _ _ c.args.self.now.accepted) _ (rules_of _ _ c.args.self.now.accepted) _ _ content long (sym c.is_legal.ensures ∙ c.if-not-is_legal.false) c.if-size-eq0.true

pub slot_named-requires : goal.slot_named-requires
slot_named-requires c = sym c.is_legal.ensures ∙ c.if-not-is_legal.false

pub invariant_of-head : goal.invariant_of-head
invariant_of-head c = record { right = right_of _ _ c.args.self.now.accepted; long = first_inside _ _ c.args.self.now.accepted }

pub returns-in-Some : goal.returns-in-Some
returns-in-Some c =
    λ content long.
    put_taken _ (right_of _ _ c.args.self.now.accepted) _ (rules_of _ _ c.args.self.now.accepted) _ _ content long (sym c.is_legal.ensures ∙ c.if-not-is_legal.false) c.if-size-eq0.false c.slot_named.ensures c.in-Some.is

pub returns-in_err-slot : goal.returns-in_err-slot
returns-in_err-slot c =
    λ content long.
    let refused = err_from_is_err_and c.from_residual.result c.from_residual.ensures.1 in
    rw (refused.1, refused.2)
    (put_none _ (right_of _ _ c.args.self.now.accepted) _ (rules_of _ _ c.args.self.now.accepted) _ _ content long (sym c.is_legal.ensures ∙ c.if-not-is_legal.false) c.if-size-eq0.false c.slot_named.ensures c.in_default.is
    c.empty_slot.ensures c.ok_or.ensures.value c.in_err-slot.was)

pub returns : goal.returns
returns c =
    let right = right_of _ _ c.args.self.now.accepted in
    let rules = rules_of _ _ c.args.self.now.accepted in
    λ content long.
    let legal = sym c.is_legal.ensures ∙ c.if-not-is_legal.false in
    let found = put_some _ right _ rules _ _ content long legal c.if-size-eq0.false c.slot_named.ensures c.in_default.is c.empty_slot.ensures c.ok_or.ensures.value c.in_ok-slot.was in
    put_room _ right _ rules _ _ content long legal c.if-size-eq0.false c.slot_named.ensures c.in_default.is c.empty_slot.ensures found c.requires c.judge_room.ensures

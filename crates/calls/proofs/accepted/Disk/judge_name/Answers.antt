-- `calls::accepted::Disk::judge_name` meets its contract: an illegal name or type is refused by 11, a name and a type that no slot has by 10, else their slot is granted.
-- By the test of name and type and the slot found. Assumes nothing.
use Rattle.std.proofs.Common.{sym, ◌∙◌}
use Rattle.calls.specs.Lemmas.Finding.{judge_illegal, judge_by}
use Rattle.calls.proofs.accepted.Disk.judge_name.Goals as goal

pub returns-then-not-is_legal : goal.returns-then-not-is_legal
returns-then-not-is_legal c = judge_illegal _ _ _ _ (sym c.is_legal.ensures ∙ c.if-not-is_legal.true)

pub slot_named-requires : goal.slot_named-requires
slot_named-requires c = sym c.is_legal.ensures ∙ c.if-not-is_legal.false

pub returns : goal.returns
returns c = c.ok_or.ensures.value ∙ judge_by _ _ _ _ (sym c.is_legal.ensures ∙ c.if-not-is_legal.false) c.slot_named.ensures

-- `calls::judge_room` meets its contract: too few free blocks are refused by 15, too many bytes by 16.
-- The blocks wanted are the length divided by 1,024 and rounded up. Assumes nothing.
use Rattle.std.proofs.Common.{◌+◌, ◌-◌, ◌/◌, arith}
use Rattle.calls.specs.Lemmas.Putting.{room_none, room_long, room_some}
use Rattle.calls.proofs.judge_room.Goals as goal

pub returns-then-free-wanted : goal.returns-then-free-wanted
returns-then-free-wanted c = let a = c.args in room_none a.free a.size a.slot ((a.size - 1) / 1024 + 1) (omega arith) c.if-free-wanted.true

pub returns-then-size-gt16777215 : goal.returns-then-size-gt16777215
returns-then-size-gt16777215 c = let a = c.args in room_long a.free a.size a.slot ((a.size - 1) / 1024 + 1) (omega arith) c.if-free-wanted.false c.if-size-gt16777215.true

pub returns : goal.returns
returns c = let a = c.args in room_some a.free a.size a.slot ((a.size - 1) / 1024 + 1) (omega arith) c.if-free-wanted.false c.if-size-gt16777215.false

-- `session::run_put` meets its contract: a content that lies in the pool is put, any other is no call.
-- By the test on the content's place; what put promises is taken as calls/specs/Made.antt has it. Assumes nothing.
use Rattle.std.proofs.Common.{sym, ◌∙◌}
use Rattle.std.specs.Prelude.{get_or}
use Rattle.calls.specs.Made.{PutMade}
use Rattle.session.specs.Lemmas.Entries.{put_some, put_none}
use Rattle.session.specs.Replied.{unreplied, replied_alone}
use Rattle.session.proofs.run_put.Goals as goal

pub returns-then-not-is_in : goal.returns-then-not-is_in
returns-then-not-is_in c =
    λ shown. unreplied c.args.image.now shown
    (put_none c.args.name.now c.args.entry.now c.args.pool.now c.number-at.ensures c.number-size.ensures (sym c.is_in.ensures ∙ c.if-not-is_in.true))

pub returns : goal.returns
returns c =
    let a = c.args in
    let fit = sym c.is_in.ensures ∙ c.if-not-is_in.false in
    let made : PutMade a.image.now a.name.now (get_or a.entry.now 1 0) _ c.put-found.result _ = c.put-found.ensures in
    replied_alone a.image.now (put_some a.name.now a.entry.now a.pool.now _ _ c.number-at.ensures c.number-size.ensures fit) c.from.ensures made

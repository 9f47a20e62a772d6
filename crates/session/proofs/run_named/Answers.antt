-- `session::run_named` meets its contract: find, remove or put, by the entry's first byte; any other is no call.
-- By the tests in the definition's order; what find and remove promise is taken as calls/specs/Made.antt has it. Assumes nothing.
use Rattle.std.specs.Prelude.{get_or}
use Rattle.calls.specs.Made.{FindMade, RemoveMade}
use Rattle.session.specs.Lemmas.Entries.{named_find, named_remove}
use Rattle.session.specs.Replied.{replied_alone}
use Rattle.session.proofs.run_named.Goals as goal

pub returns-in-2 : goal.returns-in-2
returns-in-2 c =
    let a = c.args in
    let made : FindMade a.image.now a.name.now (get_or a.entry.now 1 0) c.find-found.result = c.find-found.ensures in
    replied_alone a.image.now (named_find a.name.now a.entry.now a.pool.now c.in-2.is) c.from.ensures made

pub returns-in-3 : goal.returns-in-3
returns-in-3 c =
    let a = c.args in
    let made : RemoveMade a.image.now a.name.now (get_or a.entry.now 1 0) c.remove-removed.result _ = c.remove-removed.ensures in
    replied_alone a.image.now (named_remove a.name.now a.entry.now a.pool.now c.in-3.is) c.from-in-3.ensures made

-- `session::write_reply` meets its contract: five writes that follow one another are one write of the reply's bytes.
-- By `reply_written`. Assumes nothing.
use Rattle.std.proofs.Common.{arith, length-set}
use Rattle.session.specs.Lemmas.Entries.{reply_written}
use Rattle.session.proofs.write_reply.Goals as goal

pub bounds-shown-7 : goal.bounds-shown-7
bounds-shown-7 c = simp length-set (omega arith)

pub write_name-requires : goal.write_name-requires
write_name-requires c = simp length-set (omega arith)

pub returns : goal.returns
returns c =
    let a = c.args in
    reply_written a.shown.now a.reply c.store.ensures c.store-2.ensures c.from.ensures c.write_name.ensures

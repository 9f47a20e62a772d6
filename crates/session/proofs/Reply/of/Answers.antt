-- `session::Reply::of` meets its contract: a value and the end as a reply.
-- By `nameless`. Assumes nothing.
use Rattle.std.proofs.Common.{refl}
use Rattle.record.specs.Record.{paged}
use Rattle.session.specs.Lemmas.Entries.{nameless}
use Rattle.session.proofs.Reply.of.Goals as goal

pub returns : goal.returns
returns c = nameless (paged c.args.value c.args.end) refl

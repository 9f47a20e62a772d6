-- A reply from a refusal is its number and place, without a name.
-- By `nameless`. Assumes nothing.
use Rattle.std.proofs.Common.{refl}
use Rattle.record.specs.Record.{refused_by}
use Rattle.session.specs.Lemmas.Entries.{nameless}
use Rattle.session.proofs.ReplyFromRefusal.from.Goals as goal

pub returns : goal.returns
returns c = rw (c.number.ensures, c.place.ensures) (nameless (refused_by c.args.refusal) refl)

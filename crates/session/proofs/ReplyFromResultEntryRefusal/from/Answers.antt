-- A reply from a listing has a file's entry with its 12 name bytes, or the refusal's number and place.
-- By the answer's cases. Assumes nothing.
use Rattle.std.proofs.Common.{refl, sym, ap, ◌∙◌}
use Rattle.calls.specs.Answers.{listed_of, name_in, Listed}
use Rattle.record.specs.Record.{refused_by}
use Rattle.session.specs.Lemmas.Entries.{nameless}
use Rattle.session.specs.Script.{reply_with}
use Rattle.session.proofs.ReplyFromResultEntryRefusal.from.Goals as goal

pub returns-in-Err : goal.returns-in-Err
returns-in-Err c = c.from.ensures ∙ sym (nameless (refused_by c.in-Err.refusal) refl) ∙ ap (λ (x : Listed). reply_with (listed_of x) (name_in x)) (sym c.in-Err.is)

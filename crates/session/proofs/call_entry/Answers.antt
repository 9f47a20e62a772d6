-- `session::call_entry` meets its contract: list and page, or a call whose name lies in the pool; any other is no call.
-- By the entry's first byte and the name's place, in the definition's order; what list and page promise is taken as calls/specs/Made.antt has it. Assumes nothing.
use Rattle.std.proofs.Common.{rules, refl, sym, ap, ◌∙◌, List, ℕ, arith}
use Rattle.std.proofs.Math.Option.{Option}
use Rattle.laws.specs.Splice.{part}
use Rattle.laws.specs.Lemmas.Splice.{lent_back, length-lent}
use Rattle.record.specs.Record.{Call, Outcome}
use Rattle.calls.specs.Made.{ListMade, PageMade}
use Rattle.session.specs.Lemmas.Entries.{list_reply, entry_list, entry-page, entry_none, entry_named}
use Rattle.session.specs.Replied.{replied_by, unreplied, replied-made, replied_alone}
use Rattle.session.specs.Script.{reply_of}
use Rattle.session.proofs.call_entry.Goals as goal

pub returns-in-0 : goal.returns-in-0
returns-in-0 c =
    let a = c.args in
    let made : ListMade a.image.now c.number-a.result c.list-listed.result = c.list-listed.ensures in
    replied_alone a.image.now (entry_list a.entry.now a.pool.now (part a.shown.now 20 1024) c.number-a.ensures c.in-0.is)
    (c.from.ensures ∙ list_reply a.image.now _ c.list-listed.result made ∙ ap (λ (o : Outcome (List ℕ)). reply_of o.answer) (sym made.answer)) made.answer a.shown.now

pub returns-in-1 : goal.returns-in-1
unfolding part
returns-in-1 c =
    let a = c.args in
    let s : List ℕ = a.shown.now in
    let made : PageMade a.image.now c.number-a.result c.number-b.result _ c.page-paged.result _ = c.page-paged.ensures in
    replied-made a.image.now s (entry-page a.entry.now a.pool.now (part s 20 1024) c.number-a.ensures c.number-b.ensures c.in-1.is) c.from-in-1.ensures made
    (lent_back s 20 1044 c.page-paged.new.out (omega arith) (omega arith) (omega (arith, length-lent s 20 1044 (omega arith))) refl)

pub returns-then-not-is_in : goal.returns-then-not-is_in
returns-then-not-is_in c =
    let a = c.args in
    unreplied a.image.now a.shown.now
    (entry_none a.entry.now a.pool.now (part a.shown.now 20 1024) c.number-a.ensures c.number-b.ensures (λ e. search rules) (λ e. search rules) (sym c.is_in.ensures ∙ c.if-not-is_in.true))

pub returns-else-not-is_in : goal.returns-else-not-is_in
returns-else-not-is_in c =
    let a = c.args in
    let fit = sym c.is_in.ensures ∙ c.if-not-is_in.false in
    c.run_named.ensures a.shown.now
    ∙ ap (λ (x : Option Call). replied_by x a.image.now a.shown.now)
    (sym (entry_named a.entry.now a.pool.now (part a.shown.now 20 1024) _ _ c.number-a.ensures c.number-b.ensures (λ e. search rules) (λ e. search rules) fit))

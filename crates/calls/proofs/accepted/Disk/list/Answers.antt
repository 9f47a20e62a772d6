-- `calls::accepted::Disk::list` meets its contract: a slot without a file is refused by 10, a used one shows its entry and its name.
-- From what the slot's readers and the name's reader ensure. Assumes nothing.
use Rattle.std.proofs.Common.{sym, ap, ◌∙◌, List, ℕ, arith}
use Rattle.calls.specs.Accepts.{right_of, rules_of, first_inside}
use Rattle.calls.specs.Lemmas.Listing.{lists_none, lists_file, area-lent}
use Rattle.calls.specs.Lemmas.Slots.{file_above, file_empty}
use Rattle.laws.specs.Padded.{padded}
use Rattle.names.specs.Names.{name_of}
use Rattle.calls.proofs.accepted.Disk.list.Goals as goal

pub invariant_of-head : goal.invariant_of-head
invariant_of-head c = record { right = right_of _ _ c.args.self.now.accepted; long = first_inside _ _ c.args.self.now.accepted }

pub returns-then-slot-slots : goal.returns-then-slot-slots
returns-then-slot-slots c =
    let l = c.args.self.now.layout in
    let img = c.args.self.now.image.now in
    lists_none img _ (file_above l img c.args.slot c.if-slot-slots.true)

pub returns-then-not-is_used : goal.returns-then-not-is_used
returns-then-not-is_used c =
    let l = c.args.self.now.layout in
    let img = c.args.self.now.image.now in
    let empty = sym c.is_used.ensures ∙ c.if-not-is_used.true in
    lists_none img _ (file_empty l img c.args.slot (omega arith) empty)

pub returns : goal.returns
returns c =
    let right = right_of _ _ c.args.self.now.accepted in
    let rules = rules_of _ _ c.args.self.now.accepted in
    let l = c.args.self.now.layout in
    let img = c.args.self.now.image.now in
    let here = sym c.is_used.ensures ∙ c.if-not-is_used.false in
    let name = c.name_of-name.ensures ∙ ap (λ (a : List ℕ). padded (name_of l a) 12) (area-lent l right img rules c.args.slot (omega arith) here) in
    lists_file l right img rules c.args.slot (omega arith) here c.type_of-letter.ensures c.size_of-length.ensures name

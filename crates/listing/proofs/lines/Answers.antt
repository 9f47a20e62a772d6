-- `listing::lines` meets its contract: the check's line, and of an accepted image those of its slots and the last one.
-- By joining what the calls put: at most 3,049 bytes, so 4,096 are enough. Assumes nothing.
use Rattle.std.proofs.Common.{◌≡◌, List, ℕ, refl, arith}
use Rattle.listing.specs.Lemmas.Puts.{puts_none, puts_then, puts_fills, length_puts}
use Rattle.listing.specs.Lines.{lines_refused, lines_accepted, accepted_head, slot_answer}
use Rattle.listing.specs.Listing.{slot_lines, check_text, Told, told_text, told_by, told_is}
use Rattle.listing.specs.Puts.{Puts}
use Rattle.laws.specs.Reader.{bytes}
use Rattle.layout.specs.declared.Layout.{Layout}
use Rattle.rules.specs.Check.{Checked, answer_of}
use Rattle.listing.proofs.lines.Goals as goal

-- a head's slots are those of its bytes
shown : (l : Layout) {x y : List ℕ} {at result : ℕ} {before after : List ℕ} → x ≡ y → Puts 24064 (slot_lines (slot_answer l (bytes x)) l.slots) at before after result
    → Puts 24064 (slot_lines (slot_answer l (bytes y)) l.slots) at before after result
shown l same p = rw same at p

-- what is put of an answer that is told so is the check's line
line : (c : Checked) {t : Told} {at result : ℕ} {before after : List ℕ} → t ≡ told_by c → Puts 79 (told_text t) at before after result
    → Puts 79 (check_text (answer_of c)) at before after result
line c e p = rw (e, told_is c) at p

pub returns-in_default : goal.returns-in_default
returns-in_default c =
    let a = c.args in
    rw (lines_refused a.head.now a.length c.check_head-checked.ensures c.in_default.is)
    (puts_fills (puts_then (puts_then (line _ c.told.ensures c.put_checked-next.ensures) c.put-next.ensures) puts_none) (omega (arith, length_puts c.put_checked-next.ensures)))

pub head_of-requires : goal.head_of-requires
head_of-requires c = accepted_head c.args.head.now c.args.length c.check_head-checked.ensures c.in-Ok.is refl

pub returns : goal.returns
returns c =
    let a = c.args in
    rw (lines_accepted a.head.now a.length c.check_head-checked.ensures c.in-Ok.is c.head_of.ensures.layout)
    (puts_fills (puts_then (puts_then (line _ c.told.ensures c.put_checked-next.ensures) c.put-next.ensures) (puts_then (shown _ c.head_of.ensures.bytes c.put_slots-next.ensures) (puts_then c.put_number-next.ensures c.put.ensures)))
    (omega (arith, length_puts c.put_checked-next.ensures)))

-- What C gets of each answer (include/skilletjay.h): `refusal` is 0 where the call was done, else its number; then `place` is its place and
-- every other field is 0, as in the answer. Assumes nothing.
use Rattle.std.specs.Prelude.{◌≡◌, refl, List, ℕ, Ok, Err}
use Rattle.laws.specs.Padded.{padded}
use Rattle.layout.specs.declared.Kind.{Kind}
use Rattle.layout.specs.declared.Density.{Density}
use Rattle.record.specs.Record.{Answer, number_in, place_or, kind_number, density_number}
use Rattle.rules.specs.Check.{answer_of, Checked, accepting}
use Rattle.calls.specs.Answers.{found_of}
use Rattle.skilletjay.specs.declared.CChecked.{CChecked}
use Rattle.skilletjay.specs.declared.CListed.{CListed}
use Rattle.skilletjay.specs.declared.CFound.{CFound}
use Rattle.skilletjay.specs.declared.CPaged.{CPaged}
use Rattle.skilletjay.specs.declared.CDone.{CDone}
use Rattle.skilletjay.specs.declared.CCounted.{CCounted}
use Rattle.laws.specs.Refusals.{Counted, number_of, place_of}

abbrev pub checked_result : Answer → CChecked
checked_result a = record { refusal = number_in a.refusal; place = place_or a.refusal 0; kind = a.kind; density = a.density; files = a.value; free = a.free }

-- an accepted image's result from its numbers
pub accepted_result : {w : Checked} {k : Kind} {d : Density} {f n x y : ℕ} → w ≡ accepting k d f n → x ≡ kind_number k → y ≡ density_number d
    → record { refusal = 0; place = 0; kind = x; density = y; files = f; free = n } ≡ checked_result (answer_of w)
accepted_result e p q = rw (e, p, q) refl

-- list, with the name's 12 bytes given beside the answer
abbrev pub listed_with : Answer → List ℕ → CListed
listed_with a bytes = record { refusal = number_in a.refusal; place = place_or a.refusal 0; name = bytes; letter = a.type; length = a.value }

-- the name in ASCII, then zeros
abbrev pub listed_result : Answer → CListed
listed_result a = listed_with a (padded a.name 12)

-- find and put
abbrev pub found_result : Answer → CFound
found_result a = record { refusal = number_in a.refusal; place = place_or a.refusal 0; slot = a.value }

abbrev pub paged_result : Answer → CPaged
paged_result a = record { refusal = number_in a.refusal; place = place_or a.refusal 0; count = a.value; end = a.end }

-- remove
abbrev pub done_result : Answer → CDone
done_result a = record { refusal = number_in a.refusal; place = place_or a.refusal 0 }

-- salvage
abbrev pub changed_result : Answer → CCounted
changed_result a = record { refusal = number_in a.refusal; place = place_or a.refusal 0; count = a.value }

-- a count: a file's blocks, calls on sample and program files
abbrev pub counted_result : Counted → CCounted
counted_result (Ok count) = record { refusal = 0; place = 0; count = count }
counted_result (Err r) = record { refusal = number_of r; place = place_of r; count = 0 }

-- the two agree
pub changed_counted : (c : Counted) → counted_result c ≡ changed_result (found_of c)
changed_counted (Ok count) = refl
changed_counted (Err r) = refl

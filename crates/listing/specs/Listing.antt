-- The listing program's lines (document 01, "The listing program") as a function of the answers of the check and of list.
-- Each line ends with one line feed; an empty slot has none. Assumes nothing.
use Rattle.std.specs.Prelude.{◌≡◌, refl, List, [], ◌∷◌, ◌++◌, ℕ, zero, suc, ◌-◌, ◌/◌, ◌%◌, ltb, eqb, Result, Ok, Err}
use Rattle.std.proofs.Math.Option.{Option, none, some}
use Prim.Native.Char.{code}
use Prim.Native.String.{String, [] as []ˢ, ◌∷◌ as ◌∷ˢ◌}
use Rattle.io.specs.Digits.{hex_digit_ascii}
use Rattle.laws.specs.declared.Refusal.{Refusal}
use Rattle.laws.specs.Truth.{pick}
use Rattle.layout.specs.declared.Kind.TheVariants.{S1000, S3000}
use Rattle.layout.specs.declared.Density.TheVariants.{High}
use Rattle.record.specs.Record.{Answer, accepted, entry, refused}
use Rattle.laws.specs.Refusals.{number_of, place_of}
use Rattle.rules.specs.declared.Accepted.{Accepted}
use Rattle.rules.specs.Check.{Checked, answer_of}
use Rattle.listing.specs.declared.Reason.{Reason}

-- A text's bytes.
abbrev pub ascii : String → List ℕ
ascii []ˢ = []
ascii (c ∷ˢ s) = code c ∷ ascii s

-- A number's decimal digits, at most as many as steps; n + 1 steps are enough for n.
unfoldable pub decimal_in : ℕ → ℕ → List ℕ
decimal_in zero n = []
decimal_in (suc steps) n = pick (ltb n 10) [] (decimal_in steps (n / 10)) ++ (hex_digit_ascii (n % 10) ∷ [])

unfoldable pub decimal : ℕ → List ℕ
unfolding decimal_in
decimal n = decimal_in (suc n) n

-- A word, and the number after it.
abbrev pub numbered : String → ℕ → List ℕ
numbered word n = ascii word ++ decimal n

-- What is written of a refusal, and of an answer that is none.
abbrev pub or_refused : Option Refusal → (Refusal → List ℕ) → List ℕ → List ℕ
or_refused none refused given = given
or_refused (some r) refused given = refused r

-- A refusal's text by its number and its place, whichever they are.
abbrev pub refusal_text : Reason → List ℕ
refusal_text r = numbered "refused " r.number ++ numbered " at " r.place

abbrev pub reason_of : Refusal → Reason
reason_of r = record { number = number_of r; place = place_of r }

abbrev pub refused_text : Refusal → List ℕ
refused_text r = refusal_text (reason_of r)

abbrev pub density_word : ℕ → List ℕ
density_word density = pick (eqb density 0) (ascii " low") (ascii " high")

abbrev pub accepted_text : Answer → List ℕ
accepted_text a = numbered "S" a.kind ++ density_word a.density ++ numbered " files " a.value ++ numbered " free " a.free

-- The check's answer.
abbrev pub check_text : Answer → List ℕ
check_text a = or_refused a.refusal refused_text (accepted_text a)

-- The same of an answer whose refusal is told by any number and place; of one that the check gives it is the check's text (`told_is`).
abbrev pub Told : Type 0
Told = Result Accepted Reason

abbrev pub told_text : Told → List ℕ
told_text (Ok disk) = accepted_text (answer_of (Ok disk))
told_text (Err r) = refusal_text r

abbrev pub told_by : Checked → Told
told_by (Ok disk) = Ok disk
told_by (Err r) = Err (reason_of r)

pub told_is : (c : Checked) → told_text (told_by c) ≡ check_text (answer_of c)
told_is (Ok disk) = refl
told_is (Err r) = refl

-- A type's letter: the byte itself, but on S3000 disks, where a type is a capital plus 128, the capital (document 02, request five).
abbrev pub letter_of : ℕ → ℕ
letter_of type = pick (ltb type 128) type (type - 128)

-- A file's type, length and name.
abbrev pub file_line : Answer → List ℕ
file_line a = letter_of a.type ∷ [] ++ numbered " " a.value ++ ascii " [" ++ a.name ++ ascii "]\n"

-- The line of a slot, none where it is empty.
unfoldable pub slot_line : ℕ → Answer → List ℕ
slot_line s a = or_refused a.refusal (λ r. []) (numbered "slot " s ++ ascii " " ++ file_line a)

-- The lines of the slots below n.
unfoldable pub slot_lines : (ℕ → Answer) → ℕ → List ℕ
unfolding slot_line
slot_lines listed zero = []
slot_lines listed (suc n) = slot_lines listed n ++ slot_line n (listed n)

abbrev pub end_line : ℕ → List ℕ
end_line files = numbered "end " files ++ ascii "\n"

-- The listing: the check's line; of an accepted image also the lines of its slots, of which no disk has more than 512, and how many files there are.
unfoldable pub listing_of : Answer → (ℕ → Answer) → List ℕ
listing_of check listed = check_text check ++ ascii "\n" ++ or_refused check.refusal (λ r. []) (slot_lines listed 512 ++ end_line check.value)

-- Document 01's two examples, and a file in an S3000 disk's last slot.
listed : ℕ → Answer
listed zero = entry (ascii "BASS C2     ") 115 2150
listed (suc zero) = entry (ascii "PIANO       ") 112 300
listed (suc (suc s)) = refused 10 0

example_accepted : listing_of (accepted S1000 High 2 1591) listed
    ≡ ascii "S1000 high files 2 free 1591\nslot 0 s 2150 [BASS C2     ]\nslot 1 p 300 [PIANO       ]\nend 2\n"
unfolding listing_of slot_lines decimal listed
example_accepted = refl

example_refused : listing_of (refused 7 3) listed ≡ ascii "refused 7 at 3\n"
unfolding listing_of decimal
example_refused = refl

last_listed : ℕ → Answer
last_listed s = pick (eqb s 511) (entry (ascii "BASS C2     ") 211 2150) (refused 10 0)

example_capital : slot_line 511 (last_listed 511) ≡ ascii "slot 511 S 2150 [BASS C2     ]\n"
unfolding slot_line decimal last_listed
example_capital = refl

example_kind : check_text (accepted S3000 High 1 1580) ≡ ascii "S3000 high files 1 free 1580"
unfolding decimal
example_kind = refl

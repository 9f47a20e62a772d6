-- The number, place and values of each public call's answer, as the record's answer. Assumes nothing.
use Rattle.std.specs.Prelude.{◌≡◌, List, [], ℕ, length, take, replicate, Ok, Err, Result, ⊤}
use Rattle.laws.specs.Padded.{padded}
use Rattle.record.specs.Record.{Call, list, find, page, put, remove, salvage, Answer, entry, valued, paged, done, refused_by, Outcome}
use Rattle.laws.specs.declared.Refusal.{Refusal}
use Rattle.rules.specs.Check.{came}
use Rattle.pages.specs.Cost.{no_cost}
use Rattle.calls.specs.declared.Metered.{Metered}
use Rattle.calls.specs.declared.Entry.{Entry}
use Rattle.calls.specs.declared.Piece.{Piece}

-- Find's and put's slot, salvage's count.
abbrev pub Found : Type 0
Found = Result ℕ Refusal

abbrev pub found_of : Found → Answer
found_of (Ok n) = valued n
found_of (Err r) = refused_by r

-- Page's.
abbrev pub Paged : Type 0
Paged = Result Piece Refusal

abbrev pub paged_of : Paged → Answer
paged_of (Ok p) = paged p.count p.end
paged_of (Err r) = refused_by r

-- A page that was refused, which cost nothing.
abbrev pub unpaged_by : Refusal → Metered
unpaged_by r = record { paged = Err r; cost = no_cost }

-- Remove's.
abbrev pub Removed : Type 0
Removed = Result ⊤ Refusal

abbrev pub removed_of : Removed → Answer
removed_of (Ok _) = done
removed_of (Err r) = refused_by r

-- List's: the name is the first letters of the entry's 12 bytes.
abbrev pub Listed : Type 0
Listed = Result Entry Refusal

abbrev pub listed_of : Listed → Answer
listed_of (Ok e) = entry (take e.letters e.name) e.letter e.length
listed_of (Err r) = refused_by r

-- How many letters that is, and the 12 bytes; a refusal has none, and stands for zeros.
abbrev pub letters_of : Listed → ℕ
letters_of (Ok e) = e.letters
letters_of (Err r) = 0

abbrev pub name_in : Listed → List ℕ
name_in (Ok e) = e.name
name_in (Err r) = replicate 12 0

-- List's promise: its answer, how long the name is, and its 12 bytes, zeros but for the name.
pub record Lists (img : List ℕ) (o : Outcome (List ℕ)) (r : Listed) : Type 0 where
  pub answer : came (listed_of r) [] img ≡ o
  pub letters : letters_of r ≡ length o.answer.name
  pub name : name_in r ≡ padded o.answer.name 12

-- The calls by names that the code's own functions don't have.
abbrev pub list_call : ℕ → Call
list_call slot = list slot

abbrev pub find_call : List ℕ → ℕ → Call
find_call name type = find name type

abbrev pub page_call : ℕ → ℕ → List ℕ → Call
page_call slot offset out = page slot offset out

abbrev pub put_call : List ℕ → ℕ → List ℕ → Call
put_call name type content = put name type content

abbrev pub remove_call : List ℕ → ℕ → Call
remove_call name type = remove name type

abbrev pub salvage_call : List ℕ → Call
salvage_call report = salvage report

-- Demand 3's plain record (document 01, "Calls on an accepted disk"): what each call answers and what it changes, judged on names,
-- types and contents alone. It is fed a call's arguments and never the image. Assumes nothing.
use Rattle.std.specs.Prelude.{◌≡◌, Bool, true, false, List, [], ◌++◌, ℕ, ◌+◌, ◌-◌, min, length, drop, ltb, eqb, Ok, None, Some, Err, Result}
use Rattle.std.proofs.Math.Bool.{not}
use Rattle.std.proofs.Math.Option.{Option, none, some}
use Rattle.laws.specs.Truth.{pick, both}
use Rattle.laws.specs.Scan.{lowest, count, total, Lowest}
use Rattle.laws.specs.Lists.{same}
use Rattle.laws.specs.Splice.{part}
use Rattle.laws.specs.Reader.{tab}
use Rattle.layout.specs.declared.Kind.{Kind}
use Rattle.layout.specs.declared.Kind.TheVariants.{S900, S1000, S3000}
use Rattle.layout.specs.declared.Density.{Density}
use Rattle.layout.specs.declared.Density.TheVariants.{Low, High}
use Rattle.layout.specs.declared.Layout.{Layout}
use Rattle.layout.specs.Layouts.{layout_of}
use Rattle.blocks.specs.Blocks.{blocks_for}
use Rattle.names.specs.Names.{legal_name, legal_type, capitals}
use Rattle.view.specs.Disk.{File, takes}
use Rattle.laws.specs.declared.Refusal.{Refusal}
use Rattle.laws.specs.Refusals.{refusal_at, number_of, place_of}

-- What stays over all calls: kind and density, and the layout that they fix.
pub record Shape : Type 0 where
  pub kind : Kind
  pub density : Density
  pub layout : Layout

abbrev pub shape_of : Kind → Density → Shape
shape_of k d = record { kind = k; density = d; layout = layout_of k d }

-- The record: what each slot holds, a file or nothing.
abbrev pub Files : Type 0
Files = ℕ → Option File

-- The calls with their arguments: find and remove take a name and a type, put these and a content; a page lends its output, a salvage its report.
pub data Call : Type 0 where
  check : Call
  list : ℕ → Call
  find : List ℕ → ℕ → Call
  page : ℕ → ℕ → List ℕ → Call
  put : List ℕ → ℕ → List ℕ → Call
  remove : List ℕ → ℕ → Call
  salvage : List ℕ → Call

-- A call's answer: its fields are read, and those that the call doesn't give are 0 or empty.
pub record Answer : Type 0 where
  -- none where the call was done
  pub refusal : Option Refusal
  -- find's and put's slot, how many bytes a page has, list's length, the check's number of files, how many map values a salvage changed
  pub value : ℕ
  -- the check's free blocks, kind and density
  pub free : ℕ
  pub kind : ℕ
  pub density : ℕ
  -- list's name in ASCII and type
  pub name : List ℕ
  pub type : ℕ
  -- whether a page reaches the file's end
  pub end : Bool

-- A refusal's number, 0 for none; and its place, or what is given for none.
abbrev pub number_in : Option Refusal → ℕ
number_in none = 0
number_in (some r) = number_of r

abbrev pub place_or : Option Refusal → ℕ → ℕ
place_or none value = value
place_or (some r) value = place_of r

abbrev pub kind_number : Kind → ℕ
kind_number S900 = 900
kind_number S1000 = 1000
kind_number S3000 = 3000

abbrev pub density_number : Density → ℕ
density_number Low = 0
density_number High = 1

abbrev pub refused_by : Refusal → Answer
refused_by r = record { refusal = some r; value = 0; free = 0; kind = 0; density = 0; name = []; type = 0; end = false }

abbrev pub refused : ℕ → ℕ → Answer
refused number place = refused_by (refusal_at number place)

abbrev pub accepted : Kind → Density → ℕ → ℕ → Answer
accepted k d files free =
    record { refusal = none; value = files; free = free; kind = kind_number k; density = density_number d; name = []; type = 0; end = false }

abbrev pub gives : ℕ → List ℕ → ℕ → Bool → Answer
gives value name type end = record { refusal = none; value = value; free = 0; kind = 0; density = 0; name = name; type = type; end = end }

-- list's: name, type, length
abbrev pub entry : List ℕ → ℕ → ℕ → Answer
entry name type length = gives length name type false

-- find's and put's slot, or a count
abbrev pub valued : ℕ → Answer
valued n = gives n [] 0 false

-- page's: how many bytes, and whether the file's end is reached
abbrev pub paged : ℕ → Bool → Answer
paged n end = gives n [] 0 end

-- remove's
abbrev pub done : Answer
done = valued 0

-- What a call comes to: its answer, the lent output afterwards, and the next state, be it the record's files or an image.
pub record Outcome (S : Type 0) : Type 0 where
  pub answer : Answer
  pub output : List ℕ
  pub state : S

abbrev pub answered : {S : Type 0} → S → Answer → Outcome S
answered s a = record { answer = a; output = []; state = s }

-- A call that was made, with what came of it: answer, lent output and image afterwards.
pub record Turn : Type 0 where
  pub call : Call
  pub answer : Answer
  pub output : List ℕ
  pub after : List ℕ

-- ---- a call on a name: refused by number and place, or granted a slot

abbrev pub Judged : Type 0
Judged = Result ℕ Refusal

abbrev pub refuse : ℕ → ℕ → Judged
refuse number place = Err (refusal_at number place)

abbrev pub refuse_if : Bool → ℕ → Judged → Judged
refuse_if true n next = refuse n 0
refuse_if false n next = next

-- refused at the slot found
abbrev pub refuse_at : ℕ → Lowest → Judged → Judged
refuse_at n (Some s) next = refuse n s
refuse_at n None next = next

-- refused where no slot is found
abbrev pub or_refuse : ℕ → Lowest → (ℕ → Judged) → Judged
or_refuse n (Some s) next = next s
or_refuse n None next = refuse n 0

-- A file of the disk may have this name and this type; a call that gives others is refused by 11.
abbrev pub is_legal : Layout → List ℕ → ℕ → Bool
is_legal l name type = both (legal_name l name) (legal_type l type)

-- A name and a type as a caller gives them are a file's if the name's capitals are its name and the type is its type (document 02, requests two and six);
-- find, put and remove ask nothing else of files.
abbrev pub is_named : Layout → List ℕ → ℕ → File → Bool
is_named l name type f = both (same (capitals l name) f.name) (eqb type f.type)

abbrev pub named : Layout → List ℕ → ℕ → Option File → Bool
named l name type none = false
named l name type (some f) = is_named l name type f

-- The call removes this file, if a slot holds it: the one way in which demand 3 lets a call name a file that was there.
abbrev pub Removes : Layout → Call → File → Type 0
Removes l c f = (name : List ℕ) × (type : ℕ) × (c ≡ remove name type) × (is_named l name type f ≡ true)

-- The file that a put leaves: the record keeps capitals.
abbrev pub kept_file : Layout → List ℕ → ℕ → List ℕ → File
kept_file l name type content = record { name = capitals l name; type = type; content = content }

abbrev pub is_empty : Option File → Bool
is_empty none = true
is_empty (some f) = false

-- the files with another, or none, in slot s
unfoldable pub replaced : Files → ℕ → Option File → Files
replaced files s f t = pick (eqb t s) f (files t)

module _ (l : Layout) (files : Files) where
  -- the slot that has the name and the type
  unfoldable pub slot_of : List ℕ → ℕ → Lowest
  unfolding lowest same capitals
  slot_of name type = lowest (λ s. named l name type (files s)) 0 l.slots

  -- the lowest empty slot
  unfoldable pub empty_slot : Lowest
  unfolding lowest
  empty_slot = lowest (λ s. is_empty (files s)) 0 l.slots

  unfoldable pub file_count : ℕ
  unfolding count
  file_count = count (λ s. not (is_empty (files s))) 0 l.slots

  -- free blocks: the data blocks less those that the contents need
  unfoldable pub free : ℕ
  unfolding total
  free = l.blocks - l.first - total (λ s. takes (files s)) 0 l.slots

  -- find and remove: 11, 10
  unfoldable pub judge_name : List ℕ → ℕ → Judged
  unfolding legal_name legal_type slot_of
  judge_name name type = refuse_if (not (is_legal l name type)) 11 (or_refuse 10 (slot_of name type) (λ s. Ok s))

  -- put: 11, 13, 12, 14, 15, 16
  unfoldable pub judge_put : List ℕ → ℕ → List ℕ → Judged
  unfolding legal_name legal_type slot_of empty_slot free
  judge_put name type content =
      refuse_if (not (is_legal l name type)) 11
      (refuse_if (eqb (length content) 0) 13
      (refuse_at 12 (slot_of name type)
      (or_refuse 14 empty_slot (λ s.
      refuse_if (ltb free (blocks_for (length content))) 15
      (refuse_if (ltb 16777215 (length content)) 16
      (Ok s))))))

  -- the file of a slot, none above the last
  unfoldable pub file_at : ℕ → Option File
  file_at s = pick (ltb s l.slots) (files s) none

-- ---- what a judged call comes to

abbrev pub finding : {S : Type 0} → S → Judged → Outcome S
finding state (Err r) = answered state (refused_by r)
finding state (Ok s) = answered state (valued s)

abbrev pub putting : {S : Type 0} → S → (ℕ → S) → Judged → Outcome S
putting state after (Err r) = answered state (refused_by r)
putting state after (Ok s) = answered (after s) (valued s)

abbrev pub removing : {S : Type 0} → S → (ℕ → S) → Judged → Outcome S
removing state after (Err r) = answered state (refused_by r)
removing state after (Ok s) = answered (after s) done

-- list: 10
abbrev pub listing : {S : Type 0} → S → Option File → Outcome S
listing state none = answered state (refused 10 0)
listing state (some f) = answered state (entry f.name f.type (length f.content))

-- a page: as many bytes as the output holds and the content has left; the end is reached ↔ none is left after them
abbrev pub page_of : {S : Type 0} → S → List ℕ → ℕ → List ℕ → Outcome S
page_of state content offset out =
    let n = min (length out) (length content - offset) in
    record { answer = paged n (eqb (offset + n) (length content)); output = part content offset n ++ drop n out; state = state }

-- page: 10, 17; refused, the output stays as it was lent
abbrev pub paging : {S : Type 0} → S → Option File → ℕ → List ℕ → Outcome S
paging state none offset out = record { answer = refused 10 0; output = out; state = state }
paging state (some f) offset out =
    pick (ltb (length f.content) offset) (record { answer = refused 17 0; output = out; state = state }) (page_of state f.content offset out)

-- A salvage's report of a disk that meets the rules: 1 for each file, 0 for each empty slot, and the rest of it as it was lent.
unfoldable pub kept_report : Layout → Files → List ℕ → List ℕ
unfolding tab
kept_report l files report = tab (λ s. pick (is_empty (files s)) 0 1) 0 l.slots ++ drop l.slots report

-- salvage: 21; refused, the report stays as it was lent, else all files are kept and no map value changes (document 02, request four)
abbrev pub salvaging : {S : Type 0} → S → Layout → Files → List ℕ → Outcome S
salvaging state l files report =
    pick (ltb (length report) l.slots) (record { answer = refused 21 0; output = report; state = state })
    (record { answer = valued 0; output = kept_report l files report; state = state })

-- ---- one call on the record

unfoldable pub step_files : Shape → Files → Call → Outcome Files
unfolding judge_name judge_put file_at file_count free replaced part kept_report
step_files shape files check =
    answered files (accepted shape.kind shape.density (file_count shape.layout files) (free shape.layout files))
step_files shape files (list s) = listing files (file_at shape.layout files s)
step_files shape files (find name type) = finding files (judge_name shape.layout files name type)
step_files shape files (page s offset out) = paging files (file_at shape.layout files s) offset out
step_files shape files (put name type content) =
    putting files (λ s. replaced files s (some (kept_file shape.layout name type content))) (judge_put shape.layout files name type content)
step_files shape files (remove name type) = removing files (λ s. replaced files s none) (judge_name shape.layout files name type)
step_files shape files (salvage report) = salvaging files shape.layout files report

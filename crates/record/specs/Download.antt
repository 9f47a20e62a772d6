-- A download (demand 3): among calls made, pages of one slot, each from where those before it ended. They join to a beginning of the slot's file, and
-- that is all of it ↔ the last page says the end. Each page adds the next bytes of the content. Assumes nothing.
use Rattle.std.specs.Prelude.{◌≡◌, Bool, true, false, ◌↔◌, length, take}
use Rattle.std.proofs.Math.Path.{refl}
use mathlib.Core.List.{List, [], ◌∷◌, ◌++◌}
use Rattle.std.proofs.Math.Option.{some}
use Prim.Native.Nat.{ℕ, ◌+◌, ◌≤◌, ◌<◌}
use borrow.Author.Tests.{lt-ltb, le-ltb}
use Rattle.layout.specs.declared.Layout.{Layout}
use Rattle.view.specs.Disk.{File}
use Rattle.record.specs.Record.{Shape, Files, page, Removes, Answer, Turn, file_at, page_of, step_files}

-- Which of the calls made are a download's own pages.
pub data Pages : List Turn → Type 0 where
  none : Pages []
  own : {t : Turn} {ts : List Turn} → Pages ts → Pages (t ∷ ts)
  other : {t : Turn} {ts : List Turn} → Pages ts → Pages (t ∷ ts)

-- The joined bytes, the sum of the counts, and what the last page said.
pub record Got : Type 0 where
  pub bytes : List ℕ
  pub sum : ℕ
  pub ended : Bool

abbrev pub nothing : Got
nothing = record { bytes = []; sum = 0; ended = false }

-- One page more: its counted bytes are put after those before.
abbrev pub with_page : Got → Answer → List ℕ → Got
with_page g a output = record { bytes = g.bytes ++ take a.value output; sum = g.sum + a.value; ended = a.end }

abbrev pub got : {ts : List Turn} → Got → Pages ts → Got
got g none = g
got g (own {t = t} ps) = got (with_page g t.answer t.output) ps
got g (other ps) = got g ps

-- Each own page is asked of the slot, from the sum of the counts before it on.
abbrev pub Asked : {ts : List Turn} → ℕ → ℕ → Pages ts → Type 0
Asked slot sum none = Unit {0}
Asked slot sum (own {t = t} ps) = ((out : List ℕ) × (t.call ≡ page slot sum out)) × Asked slot (sum + t.answer.value) ps
Asked slot sum (other ps) = Asked slot sum ps

-- No call before the last page removes the file.
abbrev pub Continues : {ts : List Turn} → Pages ts → Type 0
Continues none = ⊥
Continues (own ps) = Unit {0}
Continues (other ps) = Continues ps

abbrev pub Spared : {ts : List Turn} → Layout → File → Pages ts → Type 0
Spared l f none = Unit {0}
Spared l f (own ps) = Spared l f ps
Spared l f (other {t = t} ps) = (Continues ps → Removes l t.call f → ⊥) × Spared l f ps

-- What is claimed of the bytes got: they are the content's beginning, as long as the counts say, and the whole content exactly if the last
-- page said the end.
pub record Joins (content : List ℕ) (g : Got) : Type 0 where
  pub beginning : g.bytes ≡ take g.sum content
  pub long : length g.bytes ≡ g.sum
  pub whole : (g.bytes ≡ content) ↔ (g.ended ≡ true)

-- ---- on the record

-- Every answer and output is the record's.
unfoldable pub Answered : Shape → Files → List Turn → Type 0
unfolding step_files
Answered shape held [] = Unit {0}
Answered shape held (t ∷ ts) =
    (t.answer ≡ (step_files shape held t.call).answer) × (t.output ≡ (step_files shape held t.call).output) × Answered shape (step_files shape held t.call).state ts

module _ (shape : Shape) (slot : ℕ) (inside : slot < shape.layout.slots) (f : File) where
  pub page_is : (files : Files) → files slot ≡ some f → (offset : ℕ) (out : List ℕ) → offset ≤ length f.content
      → step_files shape files (page slot offset out) ≡ page_of files f.content offset out
  unfolding step_files file_at
  page_is files there offset out h = rw (lt-ltb slot shape.layout.slots inside, there, le-ltb (length f.content) offset h) refl

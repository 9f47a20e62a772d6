-- The calls that answer a count, and that a refused one changes nothing, as for the calls on a disk (demand 1).
-- Each refusal keeps the output that was lent; only a call that is done writes to it. Assumes nothing.
use Rattle.std.specs.Prelude.{◌≡◌, refl, Bool, true, false, List, [], ◌∷◌, ℕ, ◌+◌, ltb, ℤ, length, Ok, None, Some, Err}
use Rattle.std.proofs.Common.{ap, ◌∙◌, arith}
use Rattle.laws.specs.Truth.{pick}
use Rattle.laws.specs.Refusals.{refusal_at, Filled, filled, Keeps}
use Rattle.laws.specs.Lemmas.Refusals.{keeps-refused, keeps-done, keeps-unless}
use Rattle.layout.specs.Layouts.{layout_of}
use Rattle.record.specs.Record.{check, Answer}
use Rattle.rules.specs.Check.{check_of, answer_of, Checked}
use Rattle.rules.proofs.Demand.{check_call}
use Rattle.rules.proofs.Small.{refusal_numbered}
use Rattle.locate.specs.Locate.{file_blocks, storing, blocks_by, blocks_of}
use Rattle.samples.specs.declared.Sampler.{Sampler}
use Rattle.samples.specs.Samples.{file_fault, header_fault, range_fault, room_fault, unpack_of, pack_of}
use Rattle.program.specs.Program.{keygroups_of, parts_fault, counted, refused_at, answer_of as programAnswer, program_of}
use Rattle.laws.specs.Scan.{Lowest}

-- The calls with their arguments, the lent output last; the check of a program is lent none.
pub data Counting : Type 0 where
  unpack : Sampler → List ℕ → List ℤ → Counting
  pack : Sampler → List ℕ → List ℤ → List ℕ → Counting
  program : List ℕ → Counting
  blocks : List ℕ → ℕ → List ℕ → Counting

-- What its output is an array of.
abbrev pub Element : Counting → Type 0
Element (unpack sampler file words) = ℤ
Element (pack sampler header words out) = ℕ
Element (program file) = ℕ
Element (blocks img slot out) = ℕ

abbrev pub lent_to : (c : Counting) → List (Element c)
lent_to (unpack sampler file words) = words
lent_to (pack sampler header words out) = out
lent_to (program file) = []
lent_to (blocks img slot out) = out

-- What it comes to.
abbrev pub counting_of : (c : Counting) → Filled (Element c)
counting_of (unpack sampler file words) = unpack_of sampler file words
counting_of (pack sampler header words out) = pack_of sampler header words out
counting_of (program file) = filled (program_of file) []
counting_of (blocks img slot out) = blocks_of img slot out

-- ---- by the refusals

program_kept : (n : ℕ) (short right : Bool) (w : Lowest) → Keeps {A = ℕ} [] (filled (pick short (refused_at 0) (pick right (programAnswer n w) (refused_at 42))) [])
program_kept n true right w = keeps-refused (refusal_at 20 0) []
program_kept n false true (Some place) = keeps-refused (refusal_at 20 place) []
program_kept n false true None = keeps-done n [] []
program_kept n false false w = keeps-refused (refusal_at 20 42) []

storing_kept : (bs out : List ℕ) → Keeps out (storing bs out)
storing_kept [] out = keeps-refused (refusal_at 10 0) out
storing_kept (b ∷ bs) out = go (ltb (length out) (length (b ∷ bs))) refl
  where
    go : (t : Bool) → ltb (length out) (length (b ∷ bs)) ≡ t → Keeps out (storing (b ∷ bs) out)
    go true e = rw e (keeps-refused (refusal_at 21 0) out)
    go false e = rw e (keeps-done (length (b ∷ bs)) out _)

blocks_kept : (img : List ℕ) (s : ℕ) (out : List ℕ) (w : Checked) → check_of img ≡ w → Keeps out (blocks_by w img s out)
blocks_kept img s out (Ok disk) e = storing_kept (file_blocks (layout_of disk.kind disk.density) img s) out
blocks_kept img s out (Err r) e = keeps-refused r out

-- A refused call leaves its output as it was lent, and its number isn't 0.
pub counting_kept : (c : Counting) → Keeps (lent_to c) (counting_of c)
unfolding unpack_of pack_of program_of blocks_of
counting_kept (unpack sampler file words) =
    keeps-unless 18 (file_fault sampler file) words _ (keeps-unless 21 (room_fault (length words) _) words _ (keeps-done _ words _))
counting_kept (pack sampler header words out) =
    keeps-unless 18 (header_fault sampler header (length words)) out _
    (keeps-unless 19 (range_fault sampler words) out _ (keeps-unless 21 (room_fault (length out) _) out _ (keeps-done _ out _)))
counting_kept (program file) =
    let n = keygroups_of file in program_kept n (ltb (length file) 150) (counted file n) (parts_fault file 0 (n + 1))
counting_kept (blocks img slot out) = blocks_kept img slot out (check_of img) refl

-- One call on an image that meets the disk rules: it meets them afterwards, and its files are the record's after the same call.
-- By cases on the call and on the record's judgement. Assumes nothing.
use Rattle.std.specs.Prelude.{◌≡◌, Bool, true, false, List, [], ℕ, ltb, length, Ok, Err}
use Rattle.std.proofs.Math.Path.{refl}
use Rattle.std.proofs.Math.Option.{Option, none, some}
use Rattle.layout.specs.declared.Layout.{Layout}
use Rattle.view.specs.Disk.{File}
use Rattle.image.specs.Image.{files_in, DiskRules}
use Rattle.record.specs.Record.{Shape, Files, Call, check, list, find, page, put, remove, salvage, judge_name, file_at, finding, listing, paging, putting, removing, salvaging, step_files, Judged}
use Rattle.record.specs.Step.{image_after, Reading, reads_check, reads_list, reads_find, reads-page, reads_salvage}

-- ---- these calls have no output

module _ {S : Type 0} (state : S) where
  pub list_output : (w : Option File) → (listing state w).output ≡ []
  list_output none = refl
  list_output (some f) = refl

  pub find_output : (j : Judged) → (finding state j).output ≡ []
  find_output (Err r) = refl
  find_output (Ok s) = refl

  pub put_output : (next : ℕ → S) (j : Judged) → (putting state next j).output ≡ []
  put_output next (Err r) = refl
  put_output next (Ok s) = refl

  pub remove_output : (next : ℕ → S) (j : Judged) → (removing state next j).output ≡ []
  remove_output next (Err r) = refl
  remove_output next (Ok s) = refl

-- ---- calls that leave an image as it is keep the record's files

module _ (files : Files) where
  finding-keeps : (j : Judged) → (finding files j).state ≡ files
  finding-keeps (Err r) = refl
  finding-keeps (Ok s) = refl

  listing-keeps : (f : Option File) → (listing files f).state ≡ files
  listing-keeps none = refl
  listing-keeps (some f) = refl

  paging-keeps : (f : Option File) (offset : ℕ) (out : List ℕ) → (paging files f offset out).state ≡ files
  paging-keeps none offset out = refl
  paging-keeps (some f) offset out = go (ltb (length f.content) offset) refl
    where
      go : (t : Bool) → ltb (length f.content) offset ≡ t → (paging files (some f) offset out).state ≡ files
      go true e = rw e refl
      go false e = rw e refl

  salvaging-keeps : (l : Layout) (report : List ℕ) → (salvaging files l files report).state ≡ files
  salvaging-keeps l report = go (ltb (length report) l.slots) refl
    where
      go : (t : Bool) → ltb (length report) l.slots ≡ t → (salvaging files l files report).state ≡ files
      go true e = rw e refl
      go false e = rw e refl

pub reading_keeps : (shape : Shape) (files : Files) (c : Call) → Reading c → (step_files shape files c).state ≡ files
unfolding step_files
reading_keeps shape files check reads_check = refl
reading_keeps shape files (list s) (reads_list _) = listing-keeps files (file_at shape.layout files s)
reading_keeps shape files (find name type) (reads_find _ _) = finding-keeps files (judge_name shape.layout files name type)
reading_keeps shape files (page s offset out) (reads-page _ _ _) = paging-keeps files (file_at shape.layout files s) offset out
reading_keeps shape files (salvage report) (reads_salvage _) = salvaging-keeps files shape.layout report
reading_keeps shape files (put _ _ _) reads = elim reads [ ]
reading_keeps shape files (remove _ _) reads = elim reads [ ]

-- ---- one call

pub record Step (shape : Shape) (img : List ℕ) (c : Call) : Type 0 where
  pub rules : DiskRules shape.layout (image_after shape.layout img c)
  pub files : (t : ℕ) → files_in shape.layout (image_after shape.layout img c) t ≡ (step_files shape (files_in shape.layout img) c).state t

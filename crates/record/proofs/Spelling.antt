-- A name may be typed in any spelling (document 02, request two): a call comes to the same as with its name in capitals, on the record and on an image.
-- A name and its capitals are legal together, find one slot, keep one file and are stored as one area. Assumes nothing.
use Rattle.std.specs.Prelude.{◌≡◌, List, ℕ, Ok, Err}
use Rattle.std.proofs.Math.Path.{refl}
use Rattle.std.proofs.Math.Option.{Option, none, some}
use Rattle.laws.specs.Lemmas.Scan.{lowest_cong}
use Rattle.layout.specs.declared.Layout.{Layout}
use Rattle.names.specs.Names.{capitals}
use Rattle.names.proofs.NameLaws.{capitals_twice, capitals-legal, capitals-area}
use Rattle.view.specs.Disk.{File}
use Rattle.image.specs.Image.{files_in, new_entry, put_image}
use Rattle.record.specs.Record.{Shape, Files, Call, check, list, find, page, put, remove, salvage, named, slot_of, judge_name, judge_put, step_files, Judged}
use Rattle.record.specs.Step.{after, image_after, step_image}
use Rattle.record.specs.Spelling.{in_capitals}

module _ (l : Layout) (files : Files) (name : List ℕ) (type : ℕ) where
  named_spelled : (w : Option File) → named l (capitals l name) type w ≡ named l name type w
  named_spelled none = refl
  named_spelled (some f) = rw (capitals_twice l name) refl

  slot_spelled : slot_of l files (capitals l name) type ≡ slot_of l files name type
  unfolding slot_of
  slot_spelled = lowest_cong (λ s. named l (capitals l name) type (files s)) (λ s. named l name type (files s)) 0 l.slots (λ s p q. named_spelled (files s))

  name_spelled : judge_name l files (capitals l name) type ≡ judge_name l files name type
  unfolding judge_name
  name_spelled = rw (capitals-legal l name, slot_spelled) refl

  put_spelled : (content : List ℕ) → judge_put l files (capitals l name) type content ≡ judge_put l files name type content
  unfolding judge_put
  put_spelled content = rw (capitals-legal l name, slot_spelled) refl

-- the record
pub files_spelled : (shape : Shape) (files : Files) (c : Call) → step_files shape files (in_capitals shape.layout c) ≡ step_files shape files c
unfolding step_files
files_spelled shape files check = refl
files_spelled shape files (list s) = refl
files_spelled shape files (find name type) = rw (name_spelled shape.layout files name type) refl
files_spelled shape files (page s offset out) = refl
files_spelled shape files (put name type content) = rw (put_spelled shape.layout files name type content, capitals_twice shape.layout name) refl
files_spelled shape files (remove name type) = rw (name_spelled shape.layout files name type) refl
files_spelled shape files (salvage report) = refl

-- the image
put_image_is : (l : Layout) (img name : List ℕ) (type : ℕ) (content : List ℕ) (j : Judged)
    → after img (λ s. put_image l img s (capitals l name) type content) j ≡ after img (λ s. put_image l img s name type content) j
unfolding put_image new_entry
put_image_is l img name type content (Err r) = refl
put_image_is l img name type content (Ok s) = rw (capitals-area l name) refl

after_spelled : (l : Layout) (img : List ℕ) (c : Call) → image_after l img (in_capitals l c) ≡ image_after l img c
unfolding image_after
after_spelled l img check = refl
after_spelled l img (list s) = refl
after_spelled l img (find name type) = refl
after_spelled l img (page s offset out) = refl
after_spelled l img (put name type content) =
    rw (put_spelled l (files_in l img) name type content) (put_image_is l img name type content (judge_put l (files_in l img) name type content))
after_spelled l img (remove name type) = rw (name_spelled l (files_in l img) name type) refl
after_spelled l img (salvage report) = refl

pub image_spelled : (shape : Shape) (img : List ℕ) (c : Call) → step_image shape img (in_capitals shape.layout c) ≡ step_image shape img c
unfolding step_image
image_spelled shape img c = rw (files_spelled shape (files_in shape.layout img) c, after_spelled shape.layout img c) refl

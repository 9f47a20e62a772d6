-- What a call comes to on an image that meets the disk rules. Assumes nothing.
use Rattle.std.specs.Prelude.{List, ℕ, Ok, Err}
use Rattle.layout.specs.declared.Layout.{Layout}
use Rattle.image.specs.Image.{files_in, remove_image, put_image}
use Rattle.record.specs.Record.{Shape, Call, check, list, find, page, put, remove, salvage, Outcome, judge_name, judge_put, step_files, Judged}

-- The image that a judged call leaves.
abbrev pub after : List ℕ → (ℕ → List ℕ) → Judged → List ℕ
after img change (Err r) = img
after img change (Ok s) = change s

unfoldable pub image_after : Layout → List ℕ → Call → List ℕ
unfolding put_image remove_image judge_put judge_name
image_after l img check = img
image_after l img (list s) = img
image_after l img (find name type) = img
image_after l img (page s offset out) = img
image_after l img (put name type content) = after img (λ s. put_image l img s name type content) (judge_put l (files_in l img) name type content)
image_after l img (remove name type) = after img (remove_image l img) (judge_name l (files_in l img) name type)
image_after l img (salvage report) = img

-- What a call comes to on an image that was accepted: answer and output are the record's at its files.
unfoldable pub step_image : Shape → List ℕ → Call → Outcome (List ℕ)
unfolding image_after step_files
step_image shape img c =
    let o = step_files shape (files_in shape.layout img) c in
    record { answer = o.answer; output = o.output; state = image_after shape.layout img c }

-- The calls that leave an accepted image as it is.
pub data Reading : Call → Type 0 where
  reads_check : Reading check
  reads_list : (s : ℕ) → Reading (list s)
  reads_find : (name : List ℕ) (type : ℕ) → Reading (find name type)
  reads-page : (s offset : ℕ) (out : List ℕ) → Reading (page s offset out)
  reads_salvage : (report : List ℕ) → Reading (salvage report)

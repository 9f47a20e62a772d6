-- What a call comes to on an image that meets the rules is the record's outcome with the image as the state.
-- Answer and output are the same whatever the state is, files or an image. Assumes nothing.
use Rattle.std.specs.Prelude.{◌≡◌, refl, Bool, true, false, List, ℕ, ltb, length, Ok, Err}
use Rattle.std.proofs.Math.Option.{Option, none, some}
use Rattle.layout.specs.declared.Layout.{Layout}
use Rattle.view.specs.Disk.{File}
use Rattle.image.specs.Image.{files_in, remove_image, put_image}
use Rattle.record.specs.Record.{Shape, Files, list, find, page, put, remove, judge_name, judge_put, file_at, finding, listing, paging, putting, removing, Judged}
use Rattle.record.specs.Step.{after, step_image}
use Rattle.rules.specs.Check.{came}

module _ (shape : Shape) (img : List ℕ) where
  abbrev l : Layout
  l = shape.layout

  listing-on : (w : Option File) → came (listing (files_in l img) w).answer (listing (files_in l img) w).output img ≡ listing img w
  listing-on none = refl
  listing-on (some f) = refl

  finding-on : (j : Judged) → came (finding (files_in l img) j).answer (finding (files_in l img) j).output img ≡ finding img j
  finding-on (Err r) = refl
  finding-on (Ok s) = refl

  paging-on : (w : Option File) (offset : ℕ) (out : List ℕ) → came (paging (files_in l img) w offset out).answer (paging (files_in l img) w offset out).output img ≡ paging img w offset out
  paging-on none offset out = refl
  paging-on (some f) offset out = go (ltb (length f.content) offset) refl
    where
      go : (t : Bool) → ltb (length f.content) offset ≡ t
          → came (paging (files_in l img) (some f) offset out).answer (paging (files_in l img) (some f) offset out).output img ≡ paging img (some f) offset out
      go true e = rw e refl
      go false e = rw e refl

  pub step_list : (s : ℕ) → step_image shape img (list s) ≡ listing img (file_at l (files_in l img) s)
  unfolding step_image
  step_list s = listing-on (file_at l (files_in l img) s)

  pub step_find : (name : List ℕ) (type : ℕ) → step_image shape img (find name type) ≡ finding img (judge_name l (files_in l img) name type)
  unfolding step_image
  step_find name type = finding-on (judge_name l (files_in l img) name type)

  putting-on : (next : ℕ → Files) (change : ℕ → List ℕ) (j : Judged)
      → came (putting (files_in l img) next j).answer (putting (files_in l img) next j).output (after img change j) ≡ putting img change j
  putting-on next change (Err r) = refl
  putting-on next change (Ok s) = refl

  removing-on : (next : ℕ → Files) (change : ℕ → List ℕ) (j : Judged)
      → came (removing (files_in l img) next j).answer (removing (files_in l img) next j).output (after img change j) ≡ removing img change j
  removing-on next change (Err r) = refl
  removing-on next change (Ok s) = refl

  pub step_put : (name : List ℕ) (type : ℕ) (content : List ℕ)
      → step_image shape img (put name type content) ≡ putting img (λ s. put_image l img s name type content) (judge_put l (files_in l img) name type content)
  unfolding step_image
  step_put name type content = putting-on _ (λ s. put_image l img s name type content) (judge_put l (files_in l img) name type content)

  pub step_remove : (name : List ℕ) (type : ℕ) → step_image shape img (remove name type) ≡ removing img (remove_image l img) (judge_name l (files_in l img) name type)
  unfolding step_image
  step_remove name type = removing-on _ (remove_image l img) (judge_name l (files_in l img) name type)

  pub step_page : (s offset : ℕ) (out : List ℕ) → step_image shape img (page s offset out) ≡ paging img (file_at l (files_in l img) s) offset out
  unfolding step_image
  step_page s offset out = paging-on (file_at l (files_in l img) s) offset out

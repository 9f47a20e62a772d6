-- One call on an image that meets the disk rules: it meets them afterwards, and its files are the record's after the same call.
-- By cases on the call and on the record's judgement. Assumes nothing.
use Rattle.std.specs.Prelude.{◌≡◌, List, ℕ, Ok, Err}
use Rattle.std.proofs.Math.Path.{refl}
use Rattle.std.proofs.Common.{sym, ap, ◌∙◌}
use Rattle.layout.specs.declared.Layout.{Layout}
use Rattle.layout.specs.Right.{LayoutRight}
use Rattle.image.specs.Image.{files_in, DiskRules}
use Rattle.record.specs.Record.{Shape, Files, Call, check, list, find, page, put, remove, salvage, judge_name, judge_put, step_files, Judged}
use Rattle.record.proofs.Lemmas.Update.{remove_rules, remove_files, put_rules, put_files}
use Rattle.record.specs.Step.{image_after, Reading, reads_check, reads_list, reads_find, reads-page, reads_salvage}
use Rattle.record.specs.Lemmas.Step.{reading_keeps, Step}

-- ---- one call

module _ (shape : Shape) (right : LayoutRight shape.layout) (img : List ℕ) (rules : DiskRules shape.layout img) where
  abbrev l : Layout
  l = shape.layout

  put_step : (name : List ℕ) (type : ℕ) (content : List ℕ) (j : Judged) → judge_put l (files_in l img) name type content ≡ j → Step shape img (put name type content)
  unfolding image_after step_files
  put_step name type content (Err r) e = record { rules = rw e rules; files = λ t. rw e refl }
  put_step name type content (Ok s) e = record {
    rules = rw e (put_rules l right img rules name type content s e);
    files = λ t. rw e (put_files l right img rules name type content s e t);
  }

  remove_step : (name : List ℕ) (type : ℕ) (j : Judged) → judge_name l (files_in l img) name type ≡ j → Step shape img (remove name type)
  unfolding image_after step_files
  remove_step name type (Err r) e = record { rules = rw e rules; files = λ t. rw e refl }
  remove_step name type (Ok s) e = record {
    rules = rw e (remove_rules l right img rules name type s e);
    files = λ t. rw e (remove_files l right img rules name type s e t);
  }

  reading_step : (c : Call) → Reading c → image_after l img c ≡ img → Step shape img c
  reading_step c r e = record {
    rules = rw e rules;
    files = λ t. ap (λ (x : List ℕ). files_in l x t) e ∙ ap (λ (f : Files). f t) (sym (reading_keeps shape (files_in l img) c r));
  }

  pub step : (c : Call) → Step shape img c
  unfolding image_after
  step check = reading_step check reads_check refl
  step (list s) = reading_step (list s) (reads_list s) refl
  step (find name type) = reading_step (find name type) (reads_find name type) refl
  step (page s offset out) = reading_step (page s offset out) (reads-page s offset out) refl
  step (put name type content) = put_step name type content (judge_put l (files_in l img) name type content) refl
  step (remove name type) = remove_step name type (judge_name l (files_in l img) name type) refl
  step (salvage report) = reading_step (salvage report) (reads_salvage report) refl

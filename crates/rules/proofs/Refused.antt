-- Demand 1: a refused call changes nothing that was lent to it and answers its refusal alone, on any bytes.
-- By the check's answer, then by the record's judgement of each call. Assumes nothing.
use Rattle.std.specs.Prelude.{◌≡◌, refl, Bool, true, false, List, [], ◌⊎◌, ℕ, ◌<◌, ltb, length, Ok, Err}
use Rattle.std.proofs.Common.{sym, ap, ◌∙◌, inl, inr, arith}
use Rattle.std.proofs.Math.Option.{Option, none, some}
use Rattle.layout.specs.declared.Kind.{Kind}
use Rattle.layout.specs.declared.Density.{Density}
use Rattle.layout.specs.declared.Layout.{Layout}
use Rattle.layout.specs.Layouts.{layout_of}
use Rattle.view.specs.Disk.{File}
use Rattle.laws.specs.declared.Refusal.{Refusal}
use Rattle.laws.specs.Refusals.{refusal_at}
use Rattle.image.specs.Image.{files_in}
use Rattle.record.specs.Record.{Shape, shape_of, Files, Call, check, list, find, page, put, remove, salvage, refused_by, judge_name, judge_put, file_at, listing, finding, paging, putting, removing, salvaging, Judged}
use Rattle.record.specs.Step.{after, step_image}
use Rattle.rules.specs.Check.{known_of, check_of, lent, came, salvage_of, unaccepted, call_of, Checked, known_as}
use Rattle.rules.specs.Salvage.{salvage_unknown, salvage_short}
use Rattle.rules.proofs.Salvage.{salvage_refuses}

-- two refusals of one answer; an answer without one
same_refusal : (out img : List ℕ) (q r : Refusal) → some q ≡ some r → came (refused_by q) out img ≡ came (refused_by r) out img
same_refusal out img q r e = let z : q ≡ r = cc in ap (λ (x : Refusal). came (refused_by x) out img) z

no_refusal : {A : Type 0} {r : Refusal} → none ≡ some r → A
no_refusal e = absurd (let o : ◌≡◌ {A = ℕ} 0 1 = cc in omega arith)

module _ (files : Files) (img : List ℕ) (r : Refusal) where
  list_refused : (w : Option File) → (listing files w).answer.refusal ≡ some r → came (listing files w).answer (listing files w).output img ≡ came (refused_by r) [] img
  list_refused none e = same_refusal [] img (refusal_at 10 0) r e
  list_refused (some f) e = no_refusal e

  find_refused : (j : Judged) → (finding files j).answer.refusal ≡ some r → came (finding files j).answer (finding files j).output img ≡ came (refused_by r) [] img
  find_refused (Err q) e = same_refusal [] img q r e
  find_refused (Ok s) e = no_refusal e

  page-refused : (w : Option File) (offset : ℕ) (out : List ℕ) → (paging files w offset out).answer.refusal ≡ some r
      → came (paging files w offset out).answer (paging files w offset out).output img ≡ came (refused_by r) out img
  page-refused none offset out e = same_refusal out img (refusal_at 10 0) r e
  page-refused (some f) offset out e = go (ltb (length f.content) offset) refl
    where
      go : (t : Bool) → ltb (length f.content) offset ≡ t → came (paging files (some f) offset out).answer (paging files (some f) offset out).output img ≡ came (refused_by r) out img
      go true h = rw h (same_refusal out img (refusal_at 17 0) r (rw h at e))
      go false h = no_refusal (rw h at e)

  salvage_refused : (l : Layout) (report : List ℕ) → (salvaging files l files report).answer.refusal ≡ some r
      → came (salvaging files l files report).answer (salvaging files l files report).output img ≡ came (refused_by r) report img
  salvage_refused l report e = go (ltb (length report) l.slots) refl
    where
      go : (t : Bool) → ltb (length report) l.slots ≡ t → came (salvaging files l files report).answer (salvaging files l files report).output img ≡ came (refused_by r) report img
      go true h = rw h (same_refusal report img (refusal_at 21 0) r (rw h at e))
      go false h = no_refusal (rw h at e)

  module _ (next : ℕ → Files) (change : ℕ → List ℕ) where
    put_refused : (j : Judged) → (putting files next j).answer.refusal ≡ some r → came (putting files next j).answer (putting files next j).output (after img change j) ≡ came (refused_by r) [] img
    put_refused (Err q) e = same_refusal [] img q r e
    put_refused (Ok s) e = no_refusal e

    remove_refused : (j : Judged) → (removing files next j).answer.refusal ≡ some r → came (removing files next j).answer (removing files next j).output (after img change j) ≡ came (refused_by r) [] img
    remove_refused (Err q) e = same_refusal [] img q r e
    remove_refused (Ok s) e = no_refusal e

step_refused : (shape : Shape) (img : List ℕ) (c : Call) (r : Refusal) → (step_image shape img c).answer.refusal ≡ some r → step_image shape img c ≡ came (refused_by r) (lent c) img
unfolding step_image
step_refused shape img check r e = no_refusal e
step_refused shape img (list s) r e = list_refused (files_in shape.layout img) img r (file_at shape.layout (files_in shape.layout img) s) e
step_refused shape img (find name type) r e = find_refused (files_in shape.layout img) img r (judge_name shape.layout (files_in shape.layout img) name type) e
step_refused shape img (page s offset out) r e = page-refused (files_in shape.layout img) img r (file_at shape.layout (files_in shape.layout img) s) offset out e
step_refused shape img (put name type content) r e =
    put_refused (files_in shape.layout img) img r _ _ (judge_put shape.layout (files_in shape.layout img) name type content) e
step_refused shape img (remove name type) r e = remove_refused (files_in shape.layout img) img r _ _ (judge_name shape.layout (files_in shape.layout img) name type) e
step_refused shape img (salvage report) r e = salvage_refused (files_in shape.layout img) img r shape.layout report e

-- the salvage run, by what is known of the image
run-refused : (img report : List ℕ) (r : Refusal) → (salvage_of img report).answer.refusal ≡ some r → salvage_of img report ≡ came (refused_by r) report img
run-refused img report r e = go ((salvage_refuses img report r).0 e)
  where
    go : (known_of img ≡ Err r) ⊎ ((k : Kind) × (d : Density) × (known_of img ≡ known_as k d) × (length report < (layout_of k d).slots) × (r ≡ refusal_at 21 0)) → salvage_of img report ≡ came (refused_by r) report img
    go (inl p) = salvage_unknown img report r p
    go (inr p) = salvage_short p.0 p.1 img p.2 report p.3 ∙ ap (λ (x : Refusal). came (refused_by x) report img) (sym p.4)

-- an image that the check refuses
unaccepted-refused : (q : Refusal) (img : List ℕ) (c : Call) (r : Refusal) → (unaccepted q img c).answer.refusal ≡ some r → unaccepted q img c ≡ came (refused_by r) (lent c) img
unaccepted-refused q img check r e = same_refusal [] img q r e
unaccepted-refused q img (list s) r e = same_refusal [] img q r e
unaccepted-refused q img (find name type) r e = same_refusal [] img q r e
unaccepted-refused q img (page s offset out) r e = same_refusal out img q r e
unaccepted-refused q img (put name type content) r e = same_refusal [] img q r e
unaccepted-refused q img (remove name type) r e = same_refusal [] img q r e
unaccepted-refused q img (salvage report) r e = run-refused img report r e

-- Whatever the image, a call that answers a refusal answers nothing else, and leaves output and image as they were lent.
pub unchanged : (img : List ℕ) (c : Call) (r : Refusal) → (call_of img c).answer.refusal ≡ some r → call_of img c ≡ came (refused_by r) (lent c) img
unfolding call_of
unchanged img c r e = go (check_of img) refl
  where
    go : (w : Checked) → check_of img ≡ w → call_of img c ≡ came (refused_by r) (lent c) img
    go (Err q) h = rw h (unaccepted-refused q img c r (rw h at e))
    go (Ok disk) h = rw h (step_refused (shape_of disk.kind disk.density) img c r (rw h at e))

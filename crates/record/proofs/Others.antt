-- A file that a call doesn't remove keeps slot, name, type and content (demand 3, "files not named by the call").
-- A put is granted an empty slot, a remove the slot that has its name and type. Assumes nothing.
use Rattle.std.specs.Prelude.{◌≡◌, refl, true, List, ℕ, Ok, Err}
use Rattle.std.proofs.Common.{sym, ◌∙◌, ne_eqb}
use Rattle.std.proofs.Math.Path.{ap}
use Rattle.std.proofs.Math.Bool.{true≢false}
use Rattle.std.proofs.Math.Option.{Option, none, some}
use Rattle.laws.specs.Lemmas.Scan.{at→}
use Rattle.layout.specs.declared.Layout.{Layout}
use Rattle.view.specs.Disk.{File}
use Rattle.record.specs.Record.{Shape, Files, Call, check, list, find, page, put, remove, salvage, is_named, named, Removes, is_empty, replaced, slot_of, empty_slot, judge_name, judge_put, step_files, Judged}
use Rattle.record.specs.Lemmas.Granted.{granted_name}
use Rattle.record.proofs.Lemmas.Granted.{granted_put}
use Rattle.record.specs.Step.{Reading, reads_check, reads_list, reads_find, reads-page, reads_salvage}
use Rattle.record.specs.Lemmas.Step.{reading_keeps}

module _ (shape : Shape) (files : Files) (t : ℕ) (f : File) (there : files t ≡ some f) where
  abbrev l : Layout
  l = shape.layout

  other_slot : (s : ℕ) (g : Option File) → (t ≡ s → ⊥) → replaced files s g t ≡ some f
  unfolding replaced
  other_slot s g n = rw (ne_eqb t s n) there

  put_keeps : (name : List ℕ) (type : ℕ) (content : List ℕ) (j : Judged) → judge_put l files name type content ≡ j → (step_files shape files (put name type content)).state t ≡ some f
  unfolding step_files
  put_keeps name type content (Err r) e = rw e there
  put_keeps name type content (Ok s) e =
      let w = at→ (λ x. is_empty (files x)) 0 l.slots s (unfold empty_slot in (granted_put l files name type content s e).slot) in
      rw e (other_slot s _ (λ q. true≢false (sym w.2 ∙ ap (λ (x : ℕ). is_empty (files x)) (sym q) ∙ ap is_empty there)))

  remove_keeps : (name : List ℕ) (type : ℕ) (j : Judged) → judge_name l files name type ≡ j → (is_named l name type f ≡ true → ⊥) → (step_files shape files (remove name type)).state t ≡ some f
  unfolding step_files
  remove_keeps name type (Err r) e ne = rw e there
  remove_keeps name type (Ok s) e ne =
      let w = at→ (λ x. named l name type (files x)) 0 l.slots s (unfold slot_of in granted_name l files name type s e) in
      rw e (other_slot s none (λ q. ne (sym (ap (named l name type) there) ∙ ap (λ (x : ℕ). named l name type (files x)) q ∙ w.2)))

  reading : (c : Call) → Reading c → (step_files shape files c).state t ≡ some f
  reading c r = ap (λ (x : Files). x t) (reading_keeps shape files c r) ∙ there

  pub others : (c : Call) → (Removes l c f → ⊥) → (step_files shape files c).state t ≡ some f
  others check n = reading check reads_check
  others (list s) n = reading (list s) (reads_list s)
  others (find name type) n = reading (find name type) (reads_find name type)
  others (page s offset out) n = reading (page s offset out) (reads-page s offset out)
  others (put name type content) n = put_keeps name type content (judge_put l files name type content) refl
  others (remove name type) n = remove_keeps name type (judge_name l files name type) refl (λ e. n (name, type, refl, e))
  others (salvage report) n = reading (salvage report) (reads_salvage report)

-- Demand 3 as C sees it: calls of its functions, made one after another on an accepted image, behave as the plain record, after each call.
-- A result has every field of the answer, so it tells the answer whole (`told_made`). Assumes nothing.
use Rattle.std.specs.Prelude.{◌≡◌, Bool, true, false, List, [], ◌∷◌, ℕ, ◌<◌, ltb, length, Ok, Err}
use Rattle.std.proofs.Math.Path.{refl, ap}
use Rattle.std.proofs.Common.{sym, ◌∙◌, arith, ne_eqb}
use Rattle.std.proofs.Math.Option.{Option, none, some}
use Rattle.std.proofs.Math.Decide.{dec_lt}
use Rattle.laws.specs.Lemmas.Padded.{take-padded}
use Rattle.laws.specs.declared.Refusal.{Refusal}
use Rattle.laws.specs.Reader.{bytes}
use Rattle.laws.specs.Lemmas.Reader.{length-tab}
use Rattle.layout.specs.declared.Kind.{Kind}
use Rattle.layout.specs.declared.Density.{Density}
use Rattle.layout.specs.declared.Layout.{Layout}
use Rattle.layout.specs.Layouts.{layout_of, slot_offset}
use Rattle.layout.proofs.Right.{layout_right}
use Rattle.names.specs.NameLaws.{length-name}
use Rattle.view.specs.Disk.{File, used}
use Rattle.image.specs.Image.{entry_at, view_of, files_in}
use Rattle.record.specs.Record.{shape_of, Files, Call, check, list, find, page, put, remove, salvage, Answer, Outcome, file_at, judge_name, judge_put, listing, finding, paging, putting, removing, salvaging, step_files, Judged}
use Rattle.record.specs.Step.{image_after, step_image}
use Rattle.record.specs.Lemmas.Step.{list_output, find_output, put_output, remove_output}
use Rattle.rules.specs.Check.{check_of, call_of, Made, accepting}
use Rattle.rules.proofs.Accepts.{accepted-rules}
use Rattle.rules.specs.Small.{Numbered}
use Rattle.rules.proofs.Small.{refusal_numbered}
use Rattle.rules.specs.Demand.{Ran, Behaves}
use Rattle.rules.proofs.Demand.{call_is, demand_3}
use Rattle.calls.specs.Lemmas.Slots.{slot_file, file_above, file_empty, file-used}
use Rattle.skilletjay.specs.Results.{checked_result, listed_result, found_result, paged_result, done_result, changed_result}
use Rattle.skilletjay.specs.Told.{CTurn, checked, listed, found, paged, placed, removed, salvaged, told_of, refusal_in, checked_in, listed_in, found_in, paged_in, done_in, changed_in, turn_in, CRan, turns_in}
use Rattle.laws.specs.Refusals.{number_of, place_of}
use Rattle.laws.specs.Lemmas.Refusals.{numbered, refusal_is}

-- ---- each answer is what the result tells of it

told_refused : (r : Refusal) → refusal_in (number_of r) (place_of r) ≡ some r
told_refused r = let n = numbered r in rw (ne_eqb (number_of r) 0 (λ e. omega (arith, n.0)), refusal_is r) refl

module _ (files : Files) where
  found_back : (j : Judged) → found_in (found_result (finding files j).answer) ≡ (finding files j).answer
  found_back (Err r) = rw (told_refused r) refl
  found_back (Ok s) = refl

  placed_back : (next : ℕ → Files) (j : Judged) → found_in (found_result (putting files next j).answer) ≡ (putting files next j).answer
  placed_back next (Err r) = rw (told_refused r) refl
  placed_back next (Ok s) = refl

  removed_back : (next : ℕ → Files) (j : Judged) → done_in (done_result (removing files next j).answer) ≡ (removing files next j).answer
  removed_back next (Err r) = rw (told_refused r) refl
  removed_back next (Ok s) = refl

  paged_back : (w : Option File) (offset : ℕ) (out : List ℕ) → paged_in (paged_result (paging files w offset out).answer) ≡ (paging files w offset out).answer
  paged_back none offset out = refl
  paged_back (some f) offset out = go (ltb (length f.content) offset) refl
    where
      go : (t : Bool) → ltb (length f.content) offset ≡ t → paged_in (paged_result (paging files (some f) offset out).answer) ≡ (paging files (some f) offset out).answer
      go true e = rw e refl
      go false e = rw e refl

  changed_back : (l : Layout) (report : List ℕ) → changed_in (changed_result (salvaging files l files report).answer) ≡ (salvaging files l files report).answer
  changed_back l report = go (ltb (length report) l.slots) refl
    where
      go : (t : Bool) → ltb (length report) l.slots ≡ t → changed_in (changed_result (salvaging files l files report).answer) ≡ (salvaging files l files report).answer
      go true e = rw e refl
      go false e = rw e refl

  listed_back : (l : Layout) (w : Option File) → ((f : File) → w ≡ some f → length f.name ≡ l.letters) → listed_in l (listed_result (listing files w).answer) ≡ (listing files w).answer
  listed_back l none h = refl
  listed_back l (some f) h = rw (← h f refl, take-padded f.name 12) refl

module _ (k : Kind) (d : Density) (f n : ℕ) (img : List ℕ) (accepts : check_of img ≡ accepting k d f n) where
  abbrev l : Layout
  l = layout_of k d

  is : (c : Call) → call_of img c ≡ step_image (shape_of k d) img c
  is c = call_is k d img c (accepted-rules k d f n img accepts)

  -- a listed name has all its letters
  name_long : (s : ℕ) (file : File) → file_at l (files_in l img) s ≡ some file → length file.name ≡ l.letters
  name_long s file e = go (dec_lt s l.slots) (used ((view_of l (bytes img)).entry s)) refl
    where
      none_file : {w : Option File} → w ≡ none → w ≡ some file → length file.name ≡ l.letters
      none_file p q = let z : none ≡ some file = sym p ∙ q in absurd (let o : ◌≡◌ {A = ℕ} 0 1 = cc in omega arith)

      go : Dec (s < l.slots) → (u : Bool) → used ((view_of l (bytes img)).entry s) ≡ u → length file.name ≡ l.letters
      go (no h) u p = none_file (file_above l img s (omega arith)) e
      go (yes h) false p = none_file (file_empty l img s h p) e
      go (yes h) true p =
          let z : some (slot_file l img s) ≡ some file = sym (file-used l img s h p) ∙ e in
          let w : slot_file l img s ≡ file = cc in
          ap (λ (x : File). length x.name) (sym w) ∙ length-name l (layout_right k d) ((view_of l (bytes img)).entry s).area (unfold entry_at in length-tab (bytes img) (slot_offset l s) 16)

  -- what a result and the lent bytes tell is what the call came to
  by : (c : Call) {a : Answer} {out after : List ℕ} → a ≡ (step_files (shape_of k d) (files_in l img) c).answer → out ≡ (step_files (shape_of k d) (files_in l img) c).output → after ≡ image_after l img c → Made img c a out after
  unfolding step_image
  by c p q r = rw (p, q, r) (sym (is c))

  -- the record's answer in the result, and what the call wrote
  answer_is : (c : Call) → (call_of img c).answer ≡ (step_files (shape_of k d) (files_in l img) c).answer
  unfolding step_image
  answer_is c = ap (λ (o : Outcome (List ℕ)). o.answer) (is c)

  output_is : (c : Call) → (call_of img c).output ≡ (step_files (shape_of k d) (files_in l img) c).output
  unfolding step_image
  output_is c = ap (λ (o : Outcome (List ℕ)). o.output) (is c)

  state_is : (c : Call) → (call_of img c).state ≡ image_after l img c
  unfolding step_image
  state_is c = ap (λ (o : Outcome (List ℕ)). o.state) (is c)

  -- Each C result determines the record's answer.
  pub told_made : (t : CTurn) → let u = turn_in l img t in t ≡ told_of img u.call → Made img u.call u.answer u.output u.after
  unfolding step_files image_after
  told_made (checked r) e = let z : r ≡ checked_result (call_of img check).answer = cc in by check (ap checked_in (z ∙ ap checked_result (answer_is check))) refl refl
  told_made (listed s r) e =
      let files = files_in l img in
      let z : r ≡ listed_result (call_of img (list s)).answer = cc in
      by (list s) (ap (listed_in l) (z ∙ ap listed_result (answer_is (list s))) ∙ listed_back files l (file_at l files s) (name_long s)) (sym (list_output files (file_at l files s))) refl
  told_made (found name type r) e =
      let files = files_in l img in
      let j = judge_name l files name type in
      let z : r ≡ found_result (call_of img (find name type)).answer = cc in
      by (find name type) (ap found_in (z ∙ ap found_result (answer_is (find name type))) ∙ found_back files j) (sym (find_output files j)) refl
  told_made (paged s offset lent r out) e =
      let files = files_in l img in
      let c = page s offset lent in
      let z : r ≡ paged_result (call_of img c).answer = cc in
      let o : out ≡ (call_of img c).output = cc in
      by c (ap paged_in (z ∙ ap paged_result (answer_is c)) ∙ paged_back files (file_at l files s) offset lent) (o ∙ output_is c) refl
  told_made (placed name type content r after) e =
      let files = files_in l img in
      let j = judge_put l files name type content in
      let c = put name type content in
      let z : r ≡ found_result (call_of img c).answer = cc in
      let o : after ≡ (call_of img c).state = cc in
      by c (ap found_in (z ∙ ap found_result (answer_is c)) ∙ placed_back files _ j) (sym (put_output files _ j)) (o ∙ state_is c)
  told_made (removed name type r after) e =
      let files = files_in l img in
      let j = judge_name l files name type in
      let c = remove name type in
      let z : r ≡ done_result (call_of img c).answer = cc in
      let o : after ≡ (call_of img c).state = cc in
      by c (ap done_in (z ∙ ap done_result (answer_is c)) ∙ removed_back files _ j) (sym (remove_output files _ j)) (o ∙ state_is c)
  told_made (salvaged lent r report after) e =
      let c = salvage lent in
      let z : r ≡ changed_result (call_of img c).answer = cc in
      let o : report ≡ (call_of img c).output = cc in
      let q : after ≡ (call_of img c).state = cc in
      by c (ap changed_in (z ∙ ap changed_result (answer_is c)) ∙ changed_back (files_in l img) l lent) (o ∙ output_is c) (q ∙ state_is c)

-- ---- sequences

told_ran : (k : Kind) (d : Density) (ts : List CTurn) (f n : ℕ) (img : List ℕ) → check_of img ≡ accepting k d f n → CRan (layout_of k d) img ts → Ran img (turns_in (layout_of k d) img ts)
told_ran k d [] f n img accepts ran = tt
told_ran k d (t ∷ ts) f n img accepts ran =
    let made = told_made k d f n img accepts t ran.0 in
    let after = (demand_3 k d f n img accepts (turn_in (layout_of k d) img t ∷ []) (made, tt)).0.accepted in
    (made, told_ran k d ts _ _ (turn_in (layout_of k d) img t).after after ran.1)

-- Demand 3 for C: whatever calls of its functions are made on an accepted image, refused ones too, after each of them all is the record's.
pub demand_3_c : (k : Kind) (d : Density) (f n : ℕ) (img : List ℕ) → check_of img ≡ accepting k d f n → (ts : List CTurn) → CRan (layout_of k d) img ts
    → Behaves k d img (files_in (layout_of k d) img) (turns_in (layout_of k d) img ts)
demand_3_c k d f n img accepts ts ran = demand_3 k d f n img accepts (turns_in (layout_of k d) img ts) (told_ran k d ts f n img accepts ran)

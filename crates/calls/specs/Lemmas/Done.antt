-- On an accepted image a call comes to what the record says of the layout's files; the image meets the disk rules of that layout.
-- From the check's answer, taken apart, and the layout made of its kind and density. Assumes nothing.
use Rattle.std.specs.Prelude.{◌≡◌, true, List, [], ℕ, ◌-◌, ◌≤◌, ◌<◌, length, Ok, Err}
use Rattle.std.proofs.Math.Path.{refl}
use Rattle.std.proofs.Common.{sym, ◌∙◌, arith, ltb-false}
use Rattle.laws.specs.Reader.{bytes}
use Rattle.layout.specs.declared.Kind.{Kind}
use Rattle.layout.specs.declared.Density.{Density}
use Rattle.layout.specs.declared.Layout.{Layout}
use Rattle.layout.specs.Layouts.{layout_of, image_length}
use Rattle.layout.specs.Right.{LayoutRight}
use Rattle.layout.proofs.Right.{layout_right}
use Rattle.blocks.specs.Blocks.{blocks_for, links_for}
use Rattle.names.specs.Names.{legal_name}
use Rattle.map.specs.Map.{map_at, free_blocks, free_count, Chained}
use Rattle.map.specs.Lemmas.Free.{free-count}
use Rattle.laws.specs.declared.Refusal.{Refusal}
use Rattle.image.specs.Image.{view_of, files_in, DiskRules, put_image, remove_image}
use Rattle.changes.specs.Changes.{Puttable}
use Rattle.record.specs.Record.{shape_of, list, find, page, put, remove, valued, done, refused_by, free, judge_name, judge_put, file_at, listing, finding, paging, putting, removing, Judged}
use Rattle.record.proofs.Lemmas.Granted.{granted_put}
use Rattle.record.specs.Lemmas.Update.{free_is}
use Rattle.record.proofs.Lemmas.Update.{put_slot, content_some, remove_slot}
use Rattle.rules.specs.Check.{came, check_of, call_of, Checked, accepting}
use Rattle.rules.proofs.Accepts.{accepted-rules, accepted_counts}
use Rattle.rules.specs.Lemmas.States.{step_list, step_find, step_put, step_remove, step_page}
use Rattle.calls.specs.Answers.{Found, found_of}
use Rattle.calls.specs.Metered.{page_cost, cost_in}
use Rattle.calls.specs.Lemmas.Answers.{call_accepted}
use Rattle.calls.specs.Lemmas.Paging.{size_some}

-- find's answer is its judgement
found-came : {img : List ℕ} (j : Judged) → came (found_of j) [] img ≡ finding img j
found-came (Err r) = refl
found-came (Ok s) = refl

-- as many free blocks as the map counts
free-length : (l : Layout) (m : ℕ → ℕ) → length (free_blocks l m) ≡ free_count l m
unfolding free_blocks free_count
free-length l m = free-count m l.first (l.blocks - l.first)

-- ---- an image that the check accepted

module _ (img : List ℕ) {c : Checked} {k : Kind} {d : Density} {f n : ℕ} (checked : c ≡ check_of img) (yes : c ≡ accepting k d f n) {l : Layout} (made : l ≡ layout_of k d) where
  pub done-right : LayoutRight l
  done-right = rw made (layout_right k d)

  pub done-rules : DiskRules l img
  done-rules = rw made (accepted-rules k d f n img (sym checked ∙ yes))

  -- what the steps on an accepted image ask for
  pub done_needs : LayoutRight l × DiskRules l img
  done_needs = (done-right, done-rules)

  -- its free blocks are those that the check gave
  pub done-free : n ≡ free_count l (map_at (bytes img))
  done-free = rw made (accepted_counts k d f n img (sym checked ∙ yes)).1

  pub list_done : (s : ℕ) → listing img (file_at l (files_in l img) s) ≡ call_of img (list s)
  list_done s = rw made (sym (call_accepted img (list s) checked yes ∙ step_list (shape_of k d) img s))

  pub find_done : (name : List ℕ) (type : ℕ) {j : Judged} → j ≡ judge_name l (files_in l img) name type → came (found_of j) [] img ≡ call_of img (find name type)
  find_done name type {j} e = found-came j ∙ rw (e, made) (sym (call_accepted img (find name type) checked yes ∙ step_find (shape_of k d) img name type))

  pub page-done : (s offset : ℕ) (out : List ℕ) → paging img (file_at l (files_in l img) s) offset out ≡ call_of img (page s offset out)
  page-done s offset out = rw made (sym (call_accepted img (page s offset out) checked yes ∙ step_page (shape_of k d) img s offset out))

  pub cost_done : (s offset room : ℕ) → page_cost (file_at l (files_in l img) s) offset room ≡ cost_in img s offset room
  unfolding cost_in
  cost_done s offset room = rw (made, ← checked, yes) refl

  -- put and remove, j being the call's judgement
  module _ (name : List ℕ) (type : ℕ) (content : List ℕ) {j : Judged} (judged : j ≡ judge_put l (files_in l img) name type content) where
    put_is : putting img (λ s. put_image l img s name type content) j ≡ call_of img (put name type content)
    put_is = rw (judged, made) (sym (call_accepted img (put name type content) checked yes ∙ step_put (shape_of k d) img name type content))

    pub put_refused : {w : Refusal} → j ≡ Err w → came (refused_by w) [] img ≡ call_of img (put name type content)
    put_refused e = rw e at put_is

    pub put_found : {w : Refusal} {r : Found} → j ≡ Err w → r ≡ j → came (found_of r) [] img ≡ call_of img (put name type content)
    put_found e t = rw (t, e) (put_refused e)

    pub put_granted : {s : ℕ} {after : List ℕ} → j ≡ Ok s → after ≡ put_image l img s name type content → came (valued s) [] after ≡ call_of img (put name type content)
    put_granted e t = rw t (rw e at put_is)

    -- what the granted put needs
    pub put_needs : {s : ℕ} → j ≡ Ok s → Puttable l img s content
    put_needs {s} e =
        let g = sym judged ∙ e in
        let q = granted_put l (files_in l img) name type content s g in
        let room = ltb-false (free l (files_in l img)) (blocks_for (length content)) q.room in
        record {
          right = done-right;
          whole = done-rules.size;
          slot = (put_slot l done-right img done-rules name type content s g).0;
          some_content = content_some l done-right img done-rules name type content s g;
          room = omega (arith, free_is l done-right img done-rules, free-length l (map_at (bytes img)));
        }

    pub put_legal : {s : ℕ} → j ≡ Ok s → legal_name l name ≡ true
    put_legal {s} e = (granted_put l (files_in l img) name type content s (sym judged ∙ e)).name-legal

  module _ (name : List ℕ) (type : ℕ) {j : Judged} (judged : j ≡ judge_name l (files_in l img) name type) where
    remove_is : removing img (remove_image l img) j ≡ call_of img (remove name type)
    remove_is = rw (judged, made) (sym (call_accepted img (remove name type) checked yes ∙ step_remove (shape_of k d) img name type))

    pub remove_refused : {w : Refusal} → j ≡ Err w → came (refused_by w) [] img ≡ call_of img (remove name type)
    remove_refused e = rw e at remove_is

    pub remove_granted : {s : ℕ} {after : List ℕ} → j ≡ Ok s → after ≡ remove_image l img s → came done [] after ≡ call_of img (remove name type)
    remove_granted e t = rw t (rw e at remove_is)

    -- the slot that is removed is used, so its chain is faultless
    pub remove_needs : {s : ℕ} → j ≡ Ok s
        → LayoutRight l × (length img ≡ image_length l) × (s < l.slots) × (1 ≤ ((view_of l (bytes img)).entry s).size)
        × Chained l (map_at (bytes img)) (links_for ((view_of l (bytes img)).entry s).size) ((view_of l (bytes img)).entry s).start
    remove_needs {s} e =
        let u = remove_slot l done-right img done-rules name type s (sym judged ∙ e) in
        (done-right, done-rules.size, u.0, size_some l done-right img done-rules s u.0 u.1 refl, done-rules.valid.linked s u)

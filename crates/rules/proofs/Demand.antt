-- Demand 3, one claim about calls made one after another on an accepted image: after each, all is the plain record's (`demand_3`).
-- An accepted image meets the disk rules, a call keeps them and changes the files as the record does. Assumes nothing.
use Rattle.std.specs.Prelude.{◌≡◌, Bool, true, false, ◌↔◌, ℕ, ◌+◌, ◌-◌, ◌≤◌, ◌<◌, min, ltb, eqb, length, drop, Some, Err, Ok, None}
use Rattle.std.proofs.Math.Path.{refl, ap, fun_ext}
use Rattle.std.proofs.Common.{sym, ◌∙◌, true≢false, arith, lt-ltb, ltb-true}
use mathlib.Core.List.{List, [], ◌∷◌, ◌++◌}
use Rattle.std.proofs.Math.Option.{none, some}
use Rattle.laws.specs.Lemmas.Truth.{true_both}
use Rattle.laws.specs.Scan.{total}
use Rattle.laws.specs.Splice.{part}
use Rattle.laws.specs.Reader.{bytes}
use Rattle.layout.specs.declared.Kind.{Kind}
use Rattle.layout.specs.declared.Density.{Density}
use Rattle.layout.specs.declared.Layout.{Layout}
use Rattle.layout.specs.Layouts.{layout_of, data_blocks}
use Rattle.layout.proofs.Right.{layout_right}
use Rattle.blocks.specs.Blocks.{blocks_for}
use Rattle.names.specs.Names.{legal_name, legal_type}
use Rattle.map.specs.Map.{map_at, free_count}
use Rattle.view.specs.Disk.{File, takes}
use Rattle.image.specs.Image.{files_in, DiskRules}
use Rattle.record.specs.Record.{shape_of, Files, Call, check, page, paged, put, remove, Answer, Turn, number_in, Outcome, refused, refuse_if, named, Removes, slot_of, empty_slot, judge_put, putting, step_files, Judged}
use Rattle.record.proofs.Types.{named_exactly, slot_none}
use Rattle.record.specs.Order.{room_for, order_room}
use Rattle.record.specs.Lemmas.Update.{area_split, free_is}
use Rattle.record.specs.Step.{image_after, step_image}
use Rattle.record.proofs.Lemmas.Step.{step}
use Rattle.record.proofs.Others as record-others
use Rattle.record.specs.Download as record-download
use Rattle.record.proofs.Download as record-download_proved
use Rattle.record.specs.Download.{Pages, own, nothing, got, Asked, Spared, Joins, Answered}
use Rattle.rules.specs.Check.{check_of, answer_of, came, call_of, Made, Checked, accepting}
use Rattle.rules.proofs.Accepts.{rules-accepted, accepted-rules, accepted_counts}
use Rattle.rules.specs.Demand.{Ran, Kept, Behaves, slot_inside, some_slot}

-- ---- one call

-- a call on an image that meets the rules
pub call_is : (k : Kind) (d : Density) (img : List ℕ) (c : Call) → DiskRules (layout_of k d) img → call_of img c ≡ step_image (shape_of k d) img c
unfolding call_of
call_is k d img c r = rw (rules-accepted k d img r) refl

state_is : (k : Kind) (d : Density) (img : List ℕ) (c : Call) → DiskRules (layout_of k d) img → (call_of img c).state ≡ image_after (layout_of k d) img c
unfolding step_image
state_is k d img c r = ap (λ (x : Outcome (List ℕ)). x.state) (call_is k d img c r)

pub rules-after : (k : Kind) (d : Density) (img : List ℕ) (c : Call) → DiskRules (layout_of k d) img → DiskRules (layout_of k d) (call_of img c).state
rules-after k d img c r = rw (state_is k d img c r) (step (shape_of k d) (layout_right k d) img r c).rules

pub files-after : (k : Kind) (d : Density) (img : List ℕ) (c : Call) → DiskRules (layout_of k d) img
    → (t : ℕ) → files_in (layout_of k d) (call_of img c).state t ≡ (step_files (shape_of k d) (files_in (layout_of k d) img) c).state t
files-after k d img c r t =
    ap (λ (x : List ℕ). files_in (layout_of k d) x t) (state_is k d img c r) ∙ (step (shape_of k d) (layout_right k d) img r c).files t

-- The check as a call answers what the check does, on any bytes.
pub check_call : (img : List ℕ) → (call_of img check).answer ≡ answer_of (check_of img)
unfolding call_of step_files
check_call img = go (check_of img) refl
  where
    go : (w : Checked) → check_of img ≡ w → (call_of img check).answer ≡ answer_of (check_of img)
    go (Err r) e = rw e refl
    go (Ok disk) e =
        let r = accepted-rules disk.kind disk.density disk.files disk.free img e in
        let w = accepted_counts disk.kind disk.density disk.files disk.free img e in
        rw (e, free_is (layout_of disk.kind disk.density) (layout_right disk.kind disk.density) img r, w.0, w.1) refl

-- Pages are the file's bytes (demand 2): as many as the output holds and the file has left, and the end is reached ↔ none is left after them.
pub page-bytes : (k : Kind) (d : Density) (f n : ℕ) (img : List ℕ) → check_of img ≡ accepting k d f n → (slot : ℕ) (file : File) → files_in (layout_of k d) img slot ≡ some file
    → (offset : ℕ) (out : List ℕ) → offset ≤ length file.content
    → let count = min (length out) (length file.content - offset) in
    call_of img (page slot offset out) ≡ came (paged count (eqb (offset + count) (length file.content))) (part file.content offset count ++ drop count out) img
unfolding step_image image_after
page-bytes k d f n img e slot file there offset out h =
    let l = layout_of k d in
    let p = record-download.page_is (shape_of k d) slot (slot_inside l img slot file there) file (files_in l img) there offset out h in
    call_is k d img (page slot offset out) (accepted-rules k d f n img e) ∙ rw p refl

-- ---- the free blocks

-- The free blocks that the check gives are the zeros in the map's data area, and with every file's length rounded up to blocks they
-- make the data area: 796, 1,595 or 1,583 blocks.
pub free_blocks_is : (k : Kind) (d : Density) (f n : ℕ) (img : List ℕ) → check_of img ≡ accepting k d f n
    → (n ≡ free_count (layout_of k d) (map_at (bytes img))) × (n + total (λ s. takes (files_in (layout_of k d) img s)) 0 (layout_of k d).slots ≡ data_blocks (layout_of k d))
free_blocks_is k d f n img e =
    let w = (accepted_counts k d f n img e).1 in
    (w, rw w (area_split (layout_of k d) (layout_right k d) img (accepted-rules k d f n img e)))

-- ---- room

-- a put that is judged only by its room and its length answers 15 exactly for lack of room
only_room : (img : List ℕ) (t u : Bool) (s : ℕ) → ((putting img (λ s. img) (refuse_if t 15 (refuse_if u 16 (Ok s)))).answer ≡ refused 15 0) ↔ (t ≡ true)
only_room img true u s = (λ e. refl, λ e. refl)
only_room img false true s = (λ e. let z : ◌≡◌ {A = ℕ} 16 15 = ap (λ (x : Answer). number_in x.refusal) e in absurd (omega arith), λ e. absurd (true≢false (sym e)))
only_room img false false s = (λ e. let z : ◌≡◌ {A = ℕ} 0 15 = ap (λ (x : Answer). number_in x.refusal) e in absurd (omega arith), λ e. absurd (true≢false (sym e)))

module _ (k : Kind) (d : Density) (f n : ℕ) (img : List ℕ) (yes : check_of img ≡ accepting k d f n) (name : List ℕ) (type : ℕ) (content : List ℕ) where
  abbrev l : Layout
  l = layout_of k d

  abbrev files : Files
  files = files_in l img

  no_slot : ((t : ℕ) (file : File) → files t ≡ some file → Removes l (remove name type) file → ⊥) → slot_of l files name type ≡ None
  no_slot new =
      slot_none l files name type
      (λ s h. new s h.0 h.1 (name, type, refl, sym (ap (named l name type) h.1) ∙ (named_exactly l files name type s).1 h))

  -- such a put is judged by its room and its length
  pub judged_room : legal_type l type ≡ true → legal_name l name ≡ true → slot_of l files name type ≡ None → (length content ≡ 0 → ⊥) → (s : ℕ) → empty_slot l files ≡ Some s
      → judge_put l files name type content ≡ room_for n (length content) s
  judged_room type_legal name-legal new some_content s slot =
      order_room l files name type content (true_both (legal_name l name) (legal_type l type) name-legal type_legal) some_content new slot
      ∙ ap (λ (b : ℕ). room_for b (length content) s) (free_is l (layout_right k d) img (accepted-rules k d f n img yes) ∙ sym (accepted_counts k d f n img yes).1)

  pub put_answer : (j : Judged) → judge_put l files name type content ≡ j → (call_of img (put name type content)).answer ≡ (putting img (λ s. img) j).answer
  unfolding step_image step_files
  put_answer (Err r) e = ap (λ (x : Outcome (List ℕ)). x.answer) (call_is k d img (put name type content) (accepted-rules k d f n img yes)) ∙ rw e refl
  put_answer (Ok s) e = ap (λ (x : Outcome (List ℕ)). x.answer) (call_is k d img (put name type content) (accepted-rules k d f n img yes)) ∙ rw e refl

  -- such a put is refused for room ↔ its blocks outnumber the free ones
  room : legal_type l type ≡ true → legal_name l name ≡ true → ((t : ℕ) (file : File) → files t ≡ some file → Removes l (remove name type) file → ⊥) → (length content ≡ 0 → ⊥)
      → (s : ℕ) → s < l.slots → files s ≡ none → ((call_of img (put name type content)).answer ≡ refused 15 0) ↔ (n < blocks_for (length content))
  room type_legal name-legal new some_content s inside empty =
      let slot = some_slot k d f n img yes name type content s inside empty in
      let t = ltb n (blocks_for (length content)) in
      let u = ltb 16777215 (length content) in
      let a = put_answer (room_for n (length content) slot.0) (judged_room type_legal name-legal (no_slot new) some_content slot.0 slot.1) in
      let w = only_room img t u slot.0 in
      (λ e. ltb-true n (blocks_for (length content)) (w.0 (sym a ∙ e)), λ h. a ∙ w.1 (lt-ltb n (blocks_for (length content)) h))

-- ---- sequences

module _ (k : Kind) (d : Density) where
  -- the image that a call leaves, and the record's files
  after_made : (img : List ℕ) (t : Turn) (held : Files) → Made img t.call t.answer t.output t.after → DiskRules (layout_of k d) img → files_in (layout_of k d) img ≡ held
      → DiskRules (layout_of k d) t.after × (files_in (layout_of k d) t.after ≡ (step_files (shape_of k d) held t.call).state)
  after_made img t held m r e =
      let state : t.after ≡ (call_of img t.call).state = ap (λ (o : Outcome (List ℕ)). o.state) m in (
        rw state (rules-after k d img t.call r),
        rw state (fun_ext (files-after k d img t.call r) ∙ ap (λ (x : Files). (step_files (shape_of k d) x t.call).state) e),
      )

  answer_made : (img : List ℕ) (t : Turn) (held : Files) → Made img t.call t.answer t.output t.after → DiskRules (layout_of k d) img → files_in (layout_of k d) img ≡ held
      → (t.answer ≡ (step_files (shape_of k d) held t.call).answer) × (t.output ≡ (step_files (shape_of k d) held t.call).output)
  unfolding step_image
  answer_made img t held m r e =
      let w = m ∙ call_is k d img t.call r in (
        ap (λ (o : Outcome (List ℕ)). o.answer) w ∙ ap (λ (x : Files). (step_files (shape_of k d) x t.call).answer) e,
        ap (λ (o : Outcome (List ℕ)). o.output) w ∙ ap (λ (x : Files). (step_files (shape_of k d) x t.call).output) e,
      )

  answered : (ts : List Turn) (img : List ℕ) (held : Files) → Ran img ts → DiskRules (layout_of k d) img → files_in (layout_of k d) img ≡ held → Answered (shape_of k d) held ts
  unfolding Answered
  answered [] img held ran r e = tt
  answered (t ∷ ts) img held ran r e =
      let a = answer_made img t held ran.0 r e in
      let b = after_made img t held ran.0 r e in
      (a.0, a.1, answered ts t.after _ ran.1 b.0 b.1)

  kept : (img : List ℕ) (held : Files) (t : Turn) (ts : List Turn) → Ran img (t ∷ ts) → DiskRules (layout_of k d) img → files_in (layout_of k d) img ≡ held → Kept k d img held t ts
  kept img held t ts ran r e =
      let l = layout_of k d in
      let a = answer_made img t held ran.0 r e in
      let b = after_made img t held ran.0 r e in
      record {
        answer = a.0;
        output = a.1;
        accepted = rules-accepted k d t.after b.0;
        files = λ s. ap (λ (x : Files). x s) b.1;
        others = λ s file there spared. ap (λ (x : Files). x s) b.1 ∙ record-others.others (shape_of k d) held s file (sym (ap (λ (x : Files). x s) e) ∙ there) t.call spared;
        free = area_split l (layout_right k d) t.after b.0;
        room = λ name type content c type_legal name-legal new some_content s inside empty.
            let yes = rules-accepted k d img r in
            let answer : t.answer ≡ (call_of img (put name type content)).answer = ap (λ (o : Outcome (List ℕ)). o.answer) ran.0 ∙ ap (λ (x : Call). (call_of img x).answer) c in
            rw answer (room k d _ _ img yes name type content type_legal name-legal new some_content s inside empty);
        download = λ slot file there ps asked spared.
            record-download_proved.download (shape_of k d) slot (slot_inside l img slot file there) file t ps held (answered (t ∷ ts) img held ran r e) (sym (ap (λ (x : Files). x slot) e) ∙ there) asked spared;
      }

  behaves : (ts : List Turn) (img : List ℕ) (held : Files) → Ran img ts → DiskRules (layout_of k d) img → files_in (layout_of k d) img ≡ held → Behaves k d img held ts
  behaves [] img held ran r e = tt
  behaves (t ∷ ts) img held ran r e =
      let b = after_made img t held ran.0 r e in
      (kept img held t ts ran r e, behaves ts t.after _ ran.1 b.0 b.1)

-- Demand 3: whatever calls are made on an accepted image, after each of them all is as claimed of the record, which begins as the files on the
-- image and is fed the calls' arguments alone.
pub demand_3 : (k : Kind) (d : Density) (f n : ℕ) (img : List ℕ) → check_of img ≡ accepting k d f n → (ts : List Turn) → Ran img ts → Behaves k d img (files_in (layout_of k d) img) ts
demand_3 k d f n img e ts ran = behaves k d ts img (files_in (layout_of k d) img) ran (accepted-rules k d f n img e) refl

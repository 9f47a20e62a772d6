-- The listing where only an image's head and its length are at hand, and that it is the image's.
-- The check reads no more than these, and a slot of an accepted image lies in the head. Assumes nothing.
use Rattle.std.specs.Prelude.{◌≡◌, Bool, List, [], ◌++◌, ℕ, ◌≤◌, ◌<◌, min, Ok, Err}
use Rattle.std.proofs.Math.Path.{refl, ap}
use Rattle.std.proofs.Common.{sym, ◌∙◌, arith, length-take, take-take, lt-ltb, le-ltb}
use Rattle.std.proofs.Math.Bool.{true, false}
use Rattle.std.proofs.Math.Decide.{dec_lt}
use Rattle.std.proofs.Math.ListN.{length, take}
use Rattle.laws.specs.Reader.{bytes}
use Rattle.layout.specs.declared.Density.{Density}
use Rattle.layout.specs.declared.Kind.{Kind}
use Rattle.layout.specs.declared.Layout.{Layout}
use Rattle.layout.specs.Layouts.{layout_of, head_length}
use Rattle.layout.proofs.Right.{layout_right}
use Rattle.view.specs.Disk.{used}
use Rattle.image.specs.Image.{view_of, files_in}
use Rattle.record.specs.Record.{Answer, Outcome, check, list, refused, file_at, listing}
use Rattle.rules.proofs.Accepts.{accepted-rules}
use Rattle.rules.specs.Check.{check_of, answer_of, call_of, Checked, accepting}
use Rattle.rules.proofs.Demand.{check_call}
use Rattle.rules.specs.Head.{read_head, head_agree, same-entry}
use Rattle.rules.proofs.Head.{start_check}
use Rattle.calls.specs.Lemmas.Done.{list_done}
use Rattle.calls.specs.Lemmas.Slots.{file_empty, file-used, file-length}
use Rattle.listing.specs.Listing.{ascii, or_refused, check_text, end_line, listing_of}
use Rattle.listing.specs.Lines.{slot_answer, slot_by, lines_of, slots_cong}

-- ---- the image's listing

listing_cong : (a : Answer) (f g : ℕ → Answer) → ((s : ℕ) → s < 512 → f s ≡ g s) → listing_of a f ≡ listing_of a g
unfolding listing_of
listing_cong a f g h = ap (λ (lines : List ℕ). check_text a ++ ascii "\n" ++ or_refused a.refusal (λ r. []) (lines ++ end_line a.value)) (slots_cong f g 512 h)

module _ (head img : List ℕ) (enough : min (length img) head_length ≤ length head) (same : take head_length head ≡ take head_length img) where
  module _ {k : Kind} {d : Density} {f n : ℕ} (yes : check_of img ≡ accepting k d f n) (s : ℕ) (h : s < (layout_of k d).slots) where
    abbrev l : Layout
    l = layout_of k d

    slot_by_is : (u : Bool) → used ((view_of l (bytes img)).entry s) ≡ u → slot_answer l (bytes img) s ≡ (listing img (file_at l (files_in l img) s)).answer
    unfolding slot_answer
    slot_by_is false e = rw (e, file_empty l img s h e) refl
    slot_by_is true e = rw (e, file-used l img s h e, file-length l img s (layout_right k d) (accepted-rules k d f n img yes) h e) refl

    slot_same : slot_answer l (bytes head) s ≡ (call_of img (list s)).answer
    unfolding slot_answer
    slot_same =
        rw (same-entry (bytes img) (bytes head) l (layout_right k d) (λ i r. head_agree img head same i (read_head k d i r)) s h)
        (slot_by_is (used ((view_of l (bytes img)).entry s)) refl ∙ ap (λ (o : Outcome (List ℕ)). o.answer) (list_done img refl yes refl s))

  slot_out : {k : Kind} {d : Density} {f n : ℕ} → check_of img ≡ accepting k d f n → (s : ℕ) → (layout_of k d).slots ≤ s → (call_of img (list s)).answer ≡ refused 10 0
  unfolding file_at
  slot_out {k} {d} accept s h = ap (λ (o : Outcome (List ℕ)). o.answer) (sym (list_done img refl accept refl s)) ∙ rw (le-ltb s (layout_of k d).slots h) refl

  slot_asked : {k : Kind} {d : Density} {f n : ℕ} → check_of img ≡ accepting k d f n → (s : ℕ) → slot_by (accepting k d f n) (bytes head) s ≡ (call_of img (list s)).answer
  slot_asked {k} {d} {f} {n} accept s = go (dec_lt s (layout_of k d).slots)
    where
      go : Dec (s < (layout_of k d).slots) → slot_by (accepting k d f n) (bytes head) s ≡ (call_of img (list s)).answer
      go (yes h) = rw (lt-ltb s (layout_of k d).slots h) (slot_same accept s h)
      go (no h) = rw (le-ltb s (layout_of k d).slots (omega arith)) (sym (slot_out accept s (omega arith)))

  -- A head that has the image's first 17,408 bytes, or all of them, gives the lines of the check's and list's answers.
  pub lines_are : lines_of head (length img) ≡ listing_of (call_of img check).answer (λ s. (call_of img (list s)).answer)
  unfolding lines_of
  lines_are = rw (start_check head img enough same, check_call img) (go (check_of img) refl)
    where
      go : (c : Checked) → check_of img ≡ c → listing_of (answer_of c) (slot_by c (bytes head)) ≡ listing_of (answer_of c) (λ s. (call_of img (list s)).answer)
      go (Err r) e = refl
      go (Ok disk) e =
          listing_cong (answer_of (accepting disk.kind disk.density disk.files disk.free)) (slot_by (accepting disk.kind disk.density disk.files disk.free) (bytes head)) (λ s. (call_of img (list s)).answer) (λ s h. slot_asked e s)

-- The listing program's head: the first 17,408 bytes.
pub lines_of_is : (img : List ℕ) → lines_of (take head_length img) (length img) ≡ listing_of (call_of img check).answer (λ s. (call_of img (list s)).answer)
lines_of_is img = lines_are (take head_length img) img (omega (arith, length-take head_length img)) (take-take head_length head_length img (omega arith))

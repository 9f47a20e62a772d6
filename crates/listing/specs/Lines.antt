-- The listing where only an image's head and its length are at hand, and that it is the image's.
-- The check reads no more than these, and a slot of an accepted image lies in the head. Assumes nothing.
use Rattle.std.specs.Prelude.{◌≡◌, Bool, List, [], ◌++◌, ℕ, zero, suc, ◌+◌, ◌-◌, ◌≤◌, ◌<◌, ltb, drop, Ok, Err}
use Rattle.std.proofs.Math.Path.{refl, ap}
use Rattle.std.proofs.Common.{sym, ◌∙◌, append-nil, arith, ltb-true, ltb-false, lt-ltb, le-ltb}
use Rattle.std.proofs.Math.Bool.{true, false}
use Rattle.std.proofs.Math.Decide.{ℕ_discrete}
use Rattle.std.proofs.Math.Nat.{sub-zero}
use Rattle.std.proofs.Math.ListN.{length, take}
use Rattle.laws.specs.declared.Refusal.{Refusal}
use Rattle.laws.specs.Padded.{padded}
use Rattle.laws.specs.Lemmas.Padded.{take-padded}
use Rattle.laws.specs.Reader.{bytes, tab}
use Rattle.laws.specs.Lemmas.Reader.{length-tab}
use Rattle.laws.specs.Refusals.{refusal_at}
use Rattle.laws.specs.Truth.{pick}
use Rattle.layout.specs.declared.Density.{Density}
use Rattle.layout.specs.declared.Kind.{Kind}
use Rattle.layout.specs.declared.Layout.{Layout}
use Rattle.layout.specs.Layouts.{layout_of, head_length, slot_offset}
use Rattle.layout.specs.Right.{LayoutRight}
use Rattle.layout.proofs.Right.{layout_right}
use Rattle.names.specs.Names.{name_of}
use Rattle.names.specs.NameLaws.{length-name}
use Rattle.view.specs.Disk.{used}
use Rattle.image.specs.Image.{entry_at, view_of}
use Rattle.record.specs.Record.{Answer, entry, refused, refused_by}
use Rattle.rules.specs.Check.{check_start, answer_of, Checked, accepting}
use Rattle.disk.specs.Lemmas.Steps.{start_short, start_unknown, made_right, directory_held}
use Rattle.calls.specs.Lemmas.Listing.{lent-area}
use Rattle.listing.specs.Listing.{ascii, check_text, slot_line, slot_lines, end_line, listing_of}

-- List's answer for a slot of the head.
unfoldable pub slot_answer : Layout → (ℕ → ℕ) → ℕ → Answer
unfolding used name_of
slot_answer l b s =
    let e = (view_of l b).entry s in
    pick (used e) (entry (name_of l e.area) e.type e.size) (refused 10 0)

-- The same by the check's answer.
abbrev pub slot_by : Checked → (ℕ → ℕ) → ℕ → Answer
slot_by (Ok disk) b s = pick (ltb s (layout_of disk.kind disk.density).slots) (slot_answer (layout_of disk.kind disk.density) b s) (refused 10 0)
slot_by (Err r) b s = refused_by r

unfoldable pub lines_of : List ℕ → ℕ → List ℕ
unfolding listing_of check_start slot_answer
lines_of head size = listing_of (answer_of (check_start head size)) (slot_by (check_start head size) (bytes head))

-- answers that agree on these are listed alike
pub slots_cong : (f g : ℕ → Answer) (n : ℕ) → ((s : ℕ) → s < n → f s ≡ g s) → slot_lines f n ≡ slot_lines g n
unfolding slot_lines
slots_cong f g zero h = refl
slots_cong f g (suc n) h = rw (slots_cong f g n (λ s p. h s (omega arith)), h n (omega arith)) refl

-- a slot that isn't there has no line
slots_past : (f : ℕ → Answer) (n m : ℕ) → ((s : ℕ) → n ≤ s → f s ≡ refused 10 0) → n ≤ m → slot_lines f m ≡ slot_lines f n
unfolding slot_lines slot_line
slots_past f n zero h p = let e : n ≡ 0 = omega arith in rw e refl
slots_past f n (suc m) h p = go (ℕ_discrete n (suc m)) (slots_past f n m h)
  where
    go : Dec (n ≡ suc m) → (n ≤ m → slot_lines f m ≡ slot_lines f n) → slot_lines f (suc m) ≡ slot_lines f n
    go (yes e) ih = rw e refl
    go (no e) ih = rw (h m (omega arith), ih (omega arith)) (append-nil (slot_lines f n))

slots_there : (k : Kind) (d : Density) (f n : ℕ) (b : ℕ → ℕ) → slot_lines (slot_by (accepting k d f n) b) 512 ≡ slot_lines (slot_answer (layout_of k d) b) (layout_of k d).slots
slots_there k d f n b =
    let l = layout_of k d in
    let asked = slot_by (accepting k d f n) b in
    slots_past asked l.slots 512 (λ s h. rw (le-ltb s l.slots h) refl) (layout_right k d).slots_few
    ∙ slots_cong asked (slot_answer l b) l.slots (λ s h. rw (lt-ltb s l.slots h) refl)

-- ---- in the parts that the code has

-- by the check's answer
module _ (head : List ℕ) (size : ℕ) {c : Checked} (checked : c ≡ check_start head size) where
  pub lines_refused : {r : Refusal} → c ≡ Err r → lines_of head size ≡ check_text (answer_of c) ++ ascii "\n" ++ []
  unfolding lines_of
  lines_refused e = rw (← checked, e) refl

  -- l being the layout that the code makes of it
  module _ {k : Kind} {d : Density} {f n : ℕ} {l : Layout} (yes : c ≡ accepting k d f n) (made : l ≡ layout_of k d) where
    pub lines_accepted : lines_of head size ≡ check_text (answer_of c) ++ ascii "\n" ++ (slot_lines (slot_answer l (bytes head)) l.slots ++ end_line f)
    unfolding lines_of
    lines_accepted = rw (← checked, yes, made, slots_there k d f n (bytes head)) refl

    -- a shorter head is refused
    long_by : (t : Bool) → ltb (length head) head_length ≡ t → head_length ≤ length head
    long_by true e =
        let short : Err (refusal_at 1 0) ≡ check_start head size = start_unknown head size (start_short head size (ltb-true (length head) head_length e)) refl in
        absurd (let z : ◌≡◌ {A = ℕ} 0 1 = cc in omega arith)
    long_by false e = ltb-false (length head) head_length e

    pub accepted_head : head_length ≤ length head
    accepted_head = long_by _ refl

    pub accepted_directory : LayoutRight l × (slot_offset l l.slots ≤ length head)
    accepted_directory = (made_right k d made, directory_held k d made accepted_head)

-- a slot by whether it is used, its type and length, and its name's 12 bytes
module _ (l : Layout) (head : List ℕ) (s : ℕ) {u : Bool} (asked : u ≡ used ((view_of l (bytes head)).entry s)) where
  pub slot_empty : u ≡ false → slot_answer l (bytes head) s ≡ refused 10 0
  unfolding slot_answer
  slot_empty e = rw (sym asked ∙ e) refl

  pub slot_used : LayoutRight l → slot_offset l s + 24 ≤ length head → u ≡ true → {letter size : ℕ} {name : List ℕ}
      → letter ≡ ((view_of l (bytes head)).entry s).type → size ≡ ((view_of l (bytes head)).entry s).size
      → name ≡ padded (name_of l (take (slot_offset l s + 16 - slot_offset l s) (drop (slot_offset l s) head))) 12
      → slot_answer l (bytes head) s ≡ entry (take (l.letters - 0) name) letter size
  unfolding slot_answer entry_at
  slot_used right h e t z n =
      let at = slot_offset l s in
      let given = name_of l (tab (bytes head) at 16) in
      let long : length given ≡ l.letters = length-name l right (tab (bytes head) at 16) (length-tab (bytes head) at 16) in
      let front : take l.letters (padded given 12) ≡ given = ap (λ (k : ℕ). take k (padded given 12)) (sym long) ∙ take-padded given 12 in
      rw (sym asked ∙ e, sub-zero, n, lent-area head at (omega arith), front, t, z) refl

-- The run's passes in turn make the salvaged image and its count.
-- Each pass reads map values that the passes before it left alone. Assumes nothing.
use Rattle.std.specs.Prelude.{◌≡◌, Bool, ℕ, ◌+◌, ◌-◌, ◌≤◌, ◌<◌, length}
use Rattle.std.proofs.Math.Path.{refl, sym, ap}
use Rattle.std.proofs.Common.{ap₂, ◌∙◌}
use mathlib.Core.List.{List}
use native.Mathlib.Omega.{arith}
use Rattle.laws.specs.Scan.{count, those}
use Rattle.laws.specs.Lemmas.Scan.{count_cong, count_split, in_those, those_cong, those_short}
use Rattle.laws.specs.Reader.{bytes}
use Rattle.laws.specs.Member.{In}
use Rattle.layout.specs.declared.Layout.{Layout}
use Rattle.layout.specs.Layouts.{image_length}
use Rattle.layout.specs.Right.{LayoutRight}
use Rattle.map.specs.Map.{map_at, set_all, Marks}
use Rattle.map.specs.Lemmas.Linking.{set-all-other}
use Rattle.view.specs.Disk.{View, owned}
use Rattle.view.specs.Rules.{bad_system, stray}
use Rattle.image.specs.Image.{view_of}
use Rattle.salvage.specs.Salvage.{drops, report_of, survivors, erase_slots, dropped_slots, wrong_system, stray_blocks, salvage_image, map_changes, report_after}
use Rattle.salvage.specs.Lemmas.Erased.{erase_map}
use Rattle.salvage.specs.Theorems.{report_said}
use Rattle.salvage.proofs.Theorems.{salvage_count}
use Rattle.mend.specs.Steps.{used_end, is_dropped, is_lost}
use Rattle.mend.specs.Lemmas.Verdicts.{end_low, above_said}

-- two counts are no more than their ranges have
pub counts_few : (f g : ℕ → Bool) (i a j n : ℕ) {p q : ℕ} → p ≡ count f i a → q ≡ count g j n → p + q ≤ a + n
counts_few f g i a j n e h = omega (arith, count_split f i a, count_split g j n)

module _ (l : Layout) (right : LayoutRight l) (img lent : List ℕ) (whole : length img ≡ image_length l) where
  abbrev v : View
  v = view_of l (bytes img)

  module _ {report : List ℕ} {marks : List Bool} (said : report ≡ report_after l img lent) (chains : Marks 1600 marks (owned (survivors l v) l.slots))
      {one two three : List ℕ} {end restored freed : ℕ} (last : end ≡ used_end v l.slots) (erased : one ≡ erase_slots l img (those (is_dropped report) 0 end))
      (system : two ≡ set_all one (wrong_system l (view_of l (bytes one))) l.reserved) (others : restored ≡ count (bad_system l (view_of l (bytes one))) 0 l.system)
      (lost : three ≡ set_all two (those (is_lost (map_at (bytes two)) marks) l.first (l.blocks - l.first)) 0)
      (strays : freed ≡ count (is_lost (map_at (bytes two)) marks) l.first (l.blocks - l.first)) where
    -- no slot past the end is dropped, being empty
    dropped : those (is_dropped report) 0 end ≡ dropped_slots l v
    unfolding dropped_slots
    dropped =
        let low = end_low l v l.slots last in
        let z : end + (l.slots - end) ≡ l.slots = omega arith in
        those_cong (is_dropped report) (λ s. drops (report_of l v s)) 0 end (λ s p q. rw said (ap drops (report_said l img lent s (omega (arith, low)))))
        ∙ sym (ap (those (λ s. drops (report_of l v s)) 0) (sym z)
        ∙ those_short (λ s. drops (report_of l v s)) 0 end (l.slots - end) (λ t p q. rw (above_said l v l.slots last t (omega arith) (omega (arith, low))) refl))

    one_is : one ≡ erase_slots l img (dropped_slots l v)
    one_is = erased ∙ ap (erase_slots l img) dropped

    below : (s : ℕ) → In s (dropped_slots l v) → s < l.slots
    unfolding dropped_slots
    below s i = omega (arith, (in_those (λ t. drops (report_of l v t)) 0 l.slots s i).1)

    one_map : (b : ℕ) → b < l.blocks → map_at (bytes one) b ≡ map_at (bytes img) b
    one_map b h = ap (λ (x : List ℕ). map_at (bytes x) b) one_is ∙ erase_map l right img (dropped_slots l v) b below h

    same_system : (b : ℕ) → b < l.system → bad_system l (view_of l (bytes one)) b ≡ bad_system l v b
    unfolding bad_system
    same_system b h = rw (one_map b (omega (arith, right.system_low, right.data_some))) refl

    two_is : two ≡ set_all one (wrong_system l v) l.reserved
    unfolding wrong_system
    two_is =
        system
        ∙ ap (λ (bs : List ℕ). set_all one bs l.reserved) (those_cong (bad_system l (view_of l (bytes one))) (bad_system l v) 0 l.system (λ b p q. same_system b (omega arith)))

    high : (b : ℕ) → l.first ≤ b → In b (wrong_system l v) → ⊥
    unfolding wrong_system
    high b h i = omega (arith, (in_those (bad_system l v) 0 l.system b i).1, right.system_low)

    two-map : (b : ℕ) → l.first ≤ b → b < l.blocks → map_at (bytes two) b ≡ map_at (bytes img) b
    two-map b h k = ap (λ (x : List ℕ). map_at (bytes x) b) two_is ∙ set-all-other one (wrong_system l v) l.reserved b (high b h) ∙ one_map b k

    same-stray : (b : ℕ) → l.first ≤ b → b < l.blocks → is_lost (map_at (bytes two)) marks b ≡ stray l (survivors l v) b
    unfolding stray
    same-stray b h k = rw (two-map b h k, chains.mark b (omega (arith, right.blocks_most))) refl

    three_is : three ≡ set_all two (stray_blocks l v) 0
    unfolding stray_blocks
    three_is =
        lost
        ∙ ap (λ (bs : List ℕ). set_all two bs 0)
        (those_cong (is_lost (map_at (bytes two)) marks) (stray l (survivors l v)) l.first (l.blocks - l.first) (λ b p q. same-stray b p (omega (arith, right.data_some))))

    image_is : three ≡ salvage_image l img
    unfolding salvage_image
    image_is = rw (three_is, two_is, one_is) refl

    count_is : restored + freed ≡ map_changes l img (salvage_image l img)
    count_is =
        ap₂ (λ (x y : ℕ). x + y)
        (others ∙ count_cong (bad_system l (view_of l (bytes one))) (bad_system l v) 0 l.system (λ b p q. same_system b (omega arith)))
        (strays ∙ count_cong (is_lost (map_at (bytes two)) marks) (stray l (survivors l v)) l.first (l.blocks - l.first) (λ b p q. same-stray b p (omega (arith, right.data_some))))
        ∙ sym (salvage_count l right img whole)

    -- the count, the report and the image
    pub passes : (restored + freed ≡ map_changes l img (salvage_image l img)) × (report ≡ report_after l img lent) × (three ≡ salvage_image l img)
    passes = (count_is, said, image_is)

-- Salvage by what is known of the image, and by the report's length.
-- Among the calls it comes to the run on any bytes. Assumes nothing.
use Rattle.std.specs.Prelude.{◌≡◌, List, ℕ, ◌≤◌, ◌<◌, length, Err}
use Rattle.std.proofs.Math.Path.{refl, sym, ap}
use Rattle.std.proofs.Common.{◌∙◌, le-ltb, lt-ltb}
use Rattle.laws.specs.declared.Refusal.{Refusal}
use Rattle.layout.specs.declared.Kind.{Kind}
use Rattle.layout.specs.declared.Density.{Density}
use Rattle.layout.specs.declared.Layout.{Layout}
use Rattle.layout.specs.Layouts.{layout_of, image_length}
use Rattle.layout.specs.Right.{LayoutRight}
use Rattle.layout.proofs.Right.{layout_right}
use Rattle.salvage.specs.Salvage.{salvage_image, map_changes, report_after}
use Rattle.record.specs.Record.{salvage, refused, refused_by, valued, Outcome}
use Rattle.rules.specs.Check.{known_of, known_start, came, salvage_as, salvage_known, salvage_of, call_of, Known, known_as}
use Rattle.rules.specs.Head.{whole_known}
use Rattle.rules.specs.Salvage.{salvage_unknown}
use Rattle.rules.proofs.Salvage.{salvage_call_is, known_size}

module _ (l : Layout) (img report : List ℕ) where
  pub as_short : length report < l.slots → came (refused 21 0) report img ≡ salvage_as l img report
  unfolding salvage_as
  as_short h = rw (lt-ltb (length report) l.slots h) refl

  pub as_done : l.slots ≤ length report → {n : ℕ} {said after : List ℕ} → n ≡ map_changes l img (salvage_image l img) → said ≡ report_after l img report → after ≡ salvage_image l img
      → came (valued n) said after ≡ salvage_as l img report
  unfolding salvage_as
  as_done h e f g = rw (le-ltb (length report) l.slots h, e, f, g) refl

module _ (img : List ℕ) {x : Known} (known : x ≡ known_start img (length img)) where
  is : x ≡ known_of img
  is = known ∙ whole_known img

  pub unknown_call : (report : List ℕ) {r : Refusal} → x ≡ Err r → came (refused_by r) report img ≡ call_of img (salvage report)
  unknown_call report e = sym (salvage_call_is img report ∙ salvage_unknown img report _ (sym is ∙ e))

  -- l being the layout that the code makes
  module _ {k : Kind} {d : Density} {l : Layout} (disk : x ≡ known_as k d) (made : l ≡ layout_of k d) where
    pub disk_right : LayoutRight l × (length img ≡ image_length l)
    disk_right = rw made (layout_right k d, known_size k d img (sym is ∙ disk))

    pub disk_call : (report : List ℕ) {o : Outcome (List ℕ)} → o ≡ salvage_as l img report → o ≡ call_of img (salvage report)
    unfolding salvage_of
    disk_call report e =
        e ∙ ap (λ (l : Layout). salvage_as l img report) made ∙ sym (salvage_call_is img report ∙ ap (λ (y : Known). salvage_known y img report) (sym is ∙ disk))

-- The salvage run on any bytes (document 02, request four): what it refuses, that what it leaves is accepted, that an accepted image comes back as it was, and
-- that run again it changes nothing. By what is known of the image, then by the report's length. Assumes nothing.
use Rattle.std.specs.Prelude.{◌≡◌, ℕ, ◌≤◌, ◌<◌, length, Err}
use Rattle.std.proofs.Math.Path.{refl}
use mathlib.Core.List.{List}
use borrow.Author.Tests.{le-ltb, lt-ltb}
use Rattle.laws.specs.declared.Refusal.{Refusal}
use Rattle.layout.specs.declared.Kind.{Kind}
use Rattle.layout.specs.declared.Density.{Density}
use Rattle.layout.specs.declared.Layout.{Layout}
use Rattle.layout.specs.Layouts.{layout_of}
use Rattle.salvage.specs.Salvage.{salvage_image, map_changes, report_after}
use Rattle.record.specs.Record.{refused, refused_by, valued}
use Rattle.rules.specs.Check.{known_of, came, salvage_as, salvage_of, known_as}

-- ---- by what is known of the image

pub salvage_unknown : (img report : List ℕ) (r : Refusal) → known_of img ≡ Err r → salvage_of img report ≡ came (refused_by r) report img
unfolding salvage_of
salvage_unknown img report r e = rw e refl

module _ (k : Kind) (d : Density) (img : List ℕ) (known : known_of img ≡ known_as k d) where
  abbrev l : Layout
  l = layout_of k d

  pub salvage_short : (report : List ℕ) → length report < l.slots → salvage_of img report ≡ came (refused 21 0) report img
  unfolding salvage_of salvage_as
  salvage_short report h = rw (known, lt-ltb (length report) l.slots h) refl

  pub salvage_done : (report : List ℕ) → l.slots ≤ length report
      → salvage_of img report ≡ came (valued (map_changes l img (salvage_image l img))) (report_after l img report) (salvage_image l img)
  unfolding salvage_of salvage_as
  salvage_done report h = rw (known, le-ltb (length report) l.slots h) refl

-- When the check refuses an image, and by which number at which place: exactly as document 01's table says ("The numbers given back").
-- The density and the kind first, then the cascade of the disk rules. Assumes nothing.
use Rattle.std.specs.Prelude.{◌≡◌, List, ℕ, length}
use Rattle.laws.specs.declared.Refusal.{Refusal}
use Rattle.laws.specs.Refusals.{refusal_at}
use Rattle.laws.specs.Reader.{bytes}
use Rattle.layout.specs.declared.Kind.{Kind}
use Rattle.layout.specs.declared.Density.{Density}
use Rattle.layout.specs.Layouts.{layout_of, length_of}
use Rattle.view.specs.Broken.{Due}
use Rattle.image.specs.Image.{view_of, OfKind}

-- A refusal is due to an image.
pub data Owed (img : List ℕ) : Refusal → Type 0 where
  -- 1: its length is neither of the two
  no_density : ((d : Density) → length img ≡ length_of d → ⊥) → Owed img (refusal_at 1 0)
  -- 2: its length is, and its directory is that of no kind
  no_kind : (d : Density) → length img ≡ length_of d → ((k : Kind) → OfKind (layout_of k d) (bytes img) → ⊥) → Owed img (refusal_at 2 0)
  -- 3 to 9: length and directory are those of a density and a kind, and a rule of theirs is broken
  by_rule : (k : Kind) (d : Density) {r : Refusal} → length img ≡ length_of d → OfKind (layout_of k d) (bytes img) → Due (layout_of k d) (view_of (layout_of k d) (bytes img)) r → Owed img r

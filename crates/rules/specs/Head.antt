-- The check reads the length, byte 16, the directory in use and the map alone (`check_reads`); so the first 17,408 bytes and the length decide it.
-- Readers that agree there show the same kind, entries and map values. Assumes nothing.
use Rattle.std.specs.Prelude.{◌≡◌, List, ◌⊎◌, ℕ, ◌≤◌, ◌<◌, min, length, take}
use Rattle.std.proofs.Math.Path.{refl, sym, ap}
use Rattle.std.proofs.Common.{◌∙◌, inl, inr, get_or-take, le-ltb}
use native.Mathlib.Omega.{arith}
use Rattle.laws.specs.Reader.{bytes}
use Rattle.layout.specs.declared.Kind.{Kind}
use Rattle.layout.specs.declared.Density.{Density}
use Rattle.layout.specs.declared.Layout.{Layout}
use Rattle.layout.specs.Layouts.{layout_of, head_length, map_offset, slot_offset}
use Rattle.layout.specs.Right.{LayoutRight}
use Rattle.layout.proofs.Right.{layout_right}
use Rattle.blocks.specs.Lemmas.Numbers.{number_cong}
use Rattle.map.specs.Map.{map_at}
use Rattle.image.specs.Image.{view_of}
use Rattle.image.specs.Lemmas.Entries.{entry_cong}
use Rattle.rules.specs.Check.{known_of, known_start}

-- The check reads a byte of an image of this layout: it lies in the directory or in the map.
abbrev pub Read : Layout → ℕ → Type 0
Read l i = ((l.directory ≤ i) × (i < slot_offset l l.slots)) ⊎ ((map_offset 0 ≤ i) × (i < map_offset l.blocks))

module _ (b c : ℕ → ℕ) (l : Layout) (right : LayoutRight l) (agree : (i : ℕ) → Read l i → c i ≡ b i) where
  pub same_map : (k : ℕ) → k < l.blocks → map_at c k ≡ map_at b k
  same_map k h = number_cong 2 b c (map_offset k) (λ i p q. agree i (inr (omega arith, omega arith)))

  pub same-entry : (s : ℕ) → s < l.slots → (view_of l c).entry s ≡ (view_of l b).entry s
  same-entry s h = entry_cong b c (slot_offset l s) (λ i p q. agree i (inl (omega arith, omega arith)))

-- ---- what is read lies in the first 17,408 bytes

pub read_head : (k : Kind) (d : Density) (i : ℕ) → Read (layout_of k d) i → i < head_length
read_head k d i (inl p) = omega (arith, p.1, (layout_right k d).directory_low, (layout_right k d).head_holds)
read_head k d i (inr p) = omega (arith, p.1, (layout_right k d).map-low, (layout_right k d).head_holds)

-- lists with the same head read alike there
pub head_agree : (x y : List ℕ) → take head_length y ≡ take head_length x → (i : ℕ) → i < head_length → bytes y i ≡ bytes x i
head_agree x y e i h = sym (get_or-take head_length y i 0 h) ∙ ap (λ (z : List ℕ). bytes z i) e ∙ get_or-take head_length x i 0 h

-- All of an image is a head that suffices.
pub whole_known : (img : List ℕ) → known_start img (length img) ≡ known_of img
unfolding known_start
whole_known img = rw (le-ltb (length img) (min (length img) head_length) (omega arith)) refl

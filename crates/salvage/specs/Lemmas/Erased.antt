-- Slots erased: what the disk shows afterwards, and which bytes stay.
-- A slot's 22 bytes lie apart from the map, from the other slots, from its identity and from the data blocks; by induction on the slots. Assumes nothing.
use Rattle.std.specs.Prelude.{◌≡◌, ◌⊎◌, length, replicate}
use Rattle.std.proofs.Math.Path.{refl}
use Rattle.std.proofs.Common.{◌∙◌, inl, inr, arith}
use mathlib.Core.List.{List, [], ◌∷◌}
use Prim.Native.Nat.{ℕ, ◌+◌, ◌≤◌, ◌<◌}
use Rattle.laws.specs.Lemmas.Splice.{length-splice}
use Rattle.laws.specs.Reader.{bytes}
use Rattle.laws.specs.Lemmas.Reader.{splice_off}
use Rattle.laws.specs.Member.{In}
use Rattle.layout.specs.declared.Layout.{Layout}
use Rattle.layout.specs.Layouts.{slot_offset}
use Rattle.layout.specs.Right.{LayoutRight}
use Rattle.blocks.specs.Blocks.{block_at}
use Rattle.map.specs.Map.{Data, map_at}
use Rattle.image.specs.Image.{entry_at, erase_entry}
use Rattle.image.specs.Lemmas.Effect.{map-after, entry-after, block_after}
use Rattle.salvage.specs.Salvage.{erase_slots}

pub length_erase : (l : Layout) (img ss : List ℕ) → length (erase_slots l img ss) ≡ length img
unfolding erase_slots erase_entry
length_erase l img [] = refl
length_erase l img (s ∷ ss) = length_erase l (erase_entry img (slot_offset l s)) ss ∙ length-splice img (slot_offset l s) (replicate 22 0)

-- bytes apart from the slots' 22
pub erase_off : (l : Layout) (img ss : List ℕ) (i : ℕ) → ((s : ℕ) → In s ss → (i < slot_offset l s) ⊎ (slot_offset l s + 22 ≤ i)) → bytes (erase_slots l img ss) i ≡ bytes img i
unfolding erase_slots erase_entry
erase_off l img [] i h = refl
erase_off l img (s ∷ ss) i h =
    erase_off l (erase_entry img (slot_offset l s)) ss i (λ t k. h t (inr k)) ∙ splice_off img (slot_offset l s) (replicate 22 0) i (h s (inl refl))

module _ (l : Layout) (right : LayoutRight l) where
  pub erase_map : (img ss : List ℕ) (k : ℕ) → ((s : ℕ) → In s ss → s < l.slots) → k < l.blocks → map_at (bytes (erase_slots l img ss)) k ≡ map_at (bytes img) k
  unfolding erase_slots erase_entry
  erase_map img [] k h c = refl
  erase_map img (s ∷ ss) k h c =
      erase_map (erase_entry img (slot_offset l s)) ss k (λ t i. h t (inr i)) c ∙ map-after l right img s (replicate 22 0) (h s (inl refl)) (omega arith) k c

  pub erase_block : (img ss : List ℕ) (b : ℕ) → ((s : ℕ) → In s ss → s < l.slots) → Data l b → block_at (bytes (erase_slots l img ss)) b ≡ block_at (bytes img) b
  unfolding erase_slots erase_entry
  erase_block img [] b h d = refl
  erase_block img (s ∷ ss) b h d =
      erase_block (erase_entry img (slot_offset l s)) ss b (λ x i. h x (inr i)) d ∙ block_after l right img s (replicate 22 0) (h s (inl refl)) (omega arith) b d

  pub erase_other : (img ss : List ℕ) (t : ℕ) → ((s : ℕ) → In s ss → s < l.slots) → (In t ss → ⊥) → entry_at (bytes (erase_slots l img ss)) (slot_offset l t) ≡ entry_at (bytes img) (slot_offset l t)
  unfolding erase_slots erase_entry
  erase_other img [] t h n = refl
  erase_other img (s ∷ ss) t h n =
      erase_other (erase_entry img (slot_offset l s)) ss t (λ x i. h x (inr i)) (λ i. n (inr i))
      ∙ entry-after l right img s (replicate 22 0) (h s (inl refl)) (omega arith) t (λ e. n (inl e))

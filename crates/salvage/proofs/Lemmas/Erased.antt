-- Slots erased: what the disk shows afterwards, and which bytes stay.
-- A slot's 22 bytes lie apart from the map, from the other slots, from its identity and from the data blocks; by induction on the slots. Assumes nothing.
use Rattle.std.specs.Prelude.{◌≡◌, ◌⊎◌, length, replicate}
use Rattle.std.proofs.Math.Path.{refl, ap}
use Rattle.std.proofs.Common.{◌∙◌, inl, inr, arith}
use mathlib.Core.List.{List, [], ◌∷◌}
use Prim.Native.Nat.{ℕ, ◌≤◌, ◌<◌}
use Rattle.std.proofs.Math.Decide.{ℕ_discrete}
use Rattle.laws.specs.Lemmas.Splice.{length-splice}
use Rattle.laws.specs.Reader.{bytes}
use Rattle.laws.specs.Member.{In}
use Rattle.laws.specs.Lemmas.Member.{dec_in}
use Rattle.layout.specs.declared.Layout.{Layout}
use Rattle.layout.specs.Layouts.{slot_offset}
use Rattle.layout.specs.Right.{LayoutRight}
use Rattle.image.specs.Image.{entry_at, erased, erase_entry}
use Rattle.image.specs.Lemmas.Entries.{erased-entry}
use Rattle.image.specs.Lemmas.Effect.{entry-after}
use Rattle.salvage.specs.Salvage.{erase_slots}
use Rattle.salvage.specs.Lemmas.Erased.{erase_other}

module _ (l : Layout) (right : LayoutRight l) where
  -- erasing another slot, or the same once more, makes no difference
  erased-same : (img : List ℕ) (s t : ℕ) → s < l.slots → slot_offset l l.slots ≤ length img
      → erased (entry_at (bytes (erase_entry img (slot_offset l s))) (slot_offset l t)) ≡ erased (entry_at (bytes img) (slot_offset l t))
  erased-same img s t h f = go (ℕ_discrete t s)
    where
      go : Dec (t ≡ s) → erased (entry_at (bytes (erase_entry img (slot_offset l s))) (slot_offset l t)) ≡ erased (entry_at (bytes img) (slot_offset l t))
      go (yes e) = rw e (ap erased (erased-entry img (slot_offset l s) (omega arith)))
      go (no n) =
          let other : entry_at (bytes (erase_entry img (slot_offset l s))) (slot_offset l t) ≡ entry_at (bytes img) (slot_offset l t) =
          unfold erase_entry in entry-after l right img s (replicate 22 0) h (omega arith) t n in
          ap erased other

  pub erase_on : (img ss : List ℕ) (t : ℕ) → ((s : ℕ) → In s ss → s < l.slots) → slot_offset l l.slots ≤ length img → In t ss
      → entry_at (bytes (erase_slots l img ss)) (slot_offset l t) ≡ erased (entry_at (bytes img) (slot_offset l t))
  unfolding erase_slots
  erase_on img [] t h f i = absurd i
  erase_on img (s ∷ ss) t h f i = go (erase_on one ss t (λ x k. h x (inr k)) (omega (arith, same_length))) (dec_in t ss) i
    where
      one : List ℕ
      one = erase_entry img (slot_offset l s)

      same_length : length one ≡ length img
      same_length = unfold erase_entry in length-splice img (slot_offset l s) (replicate 22 0)

      low : s < l.slots
      low = h s (inl refl)

      go : (In t ss → entry_at (bytes (erase_slots l one ss)) (slot_offset l t) ≡ erased (entry_at (bytes one) (slot_offset l t))) → Dec (In t ss) → (t ≡ s) ⊎ In t ss
          → entry_at (bytes (erase_slots l one ss)) (slot_offset l t) ≡ erased (entry_at (bytes img) (slot_offset l t))
      go ih (yes p) q = ih p ∙ erased-same img s t low f
      go ih (no p) (inl e) = erase_other l right one ss t (λ x k. h x (inr k)) p ∙ rw e (erased-entry img (slot_offset l s) (omega (arith, low)))
      go ih (no p) (inr k) = absurd (p k)

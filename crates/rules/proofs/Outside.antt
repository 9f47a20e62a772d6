-- Nothing else in the image changes (document 01, "Calls on an accepted disk"), call by call and on any bytes; so the volume label is kept.
-- A refused image is kept whole, but that salvage mends it; on an accepted one it is the record's claim. Assumes nothing.
use Rattle.std.specs.Prelude.{◌≡◌, refl, Bool, true, false, List, ◌⊎◌, ℕ, ◌+◌, ◌≤◌, ◌<◌, ltb, length, Ok, Err}
use Rattle.std.proofs.Common.{sym, ◌∙◌, inr, arith}
use Rattle.laws.specs.declared.Refusal.{Refusal}
use Rattle.laws.specs.Reader.{bytes}
use Rattle.layout.specs.declared.Kind.{Kind}
use Rattle.layout.specs.declared.Kind.TheVariants.{S1000}
use Rattle.layout.specs.declared.Density.{Density}
use Rattle.layout.specs.declared.Layout.{Layout}
use Rattle.layout.specs.Layouts.{layout_of, slot_offset, block_offset, map_offset}
use Rattle.layout.proofs.Right.{layout_right}
use Rattle.map.specs.Map.{Outside}
use Rattle.image.specs.Outside.{Within, InMap}
use Rattle.salvage.specs.Salvage.{salvage_image}
use Rattle.salvage.specs.Theorems.{salvage_length}
use Rattle.salvage.proofs.Theorems.{salvage_outside}
use Rattle.record.specs.Record.{shape_of, Call, check, list, find, page, put, remove, salvage}
use Rattle.record.specs.Step.{step_image}
use Rattle.record.proofs.Lemmas.Step.{step}
use Rattle.record.specs.Outside.{Changeable, system_fixed, reserved_fixed}
use Rattle.record.proofs.Outside.{step_outside, touches_where, identity_fixed}
use Rattle.rules.specs.Check.{known_of, check_of, salvage_as, salvage_of, unaccepted, call_by, call_of, Checked, Known, accepting, known_as}
use Rattle.rules.proofs.Salvage.{known_size}
use Rattle.rules.proofs.Accepts.{accepted-rules}
use Rattle.rules.specs.Outside.{Mends, TouchedBy}

-- what the salvage run leaves is its image, or the one that was lent
run_leaves : (P : List ℕ → Type 0) (img report : List ℕ) → P img → ((k : Kind) (d : Density) → known_of img ≡ known_as k d → P (salvage_image (layout_of k d) img)) → P (salvage_of img report).state
unfolding salvage_of salvage_as
run_leaves P img report same mended = go (known_of img) refl
  where
    by_room : (k : Kind) (d : Density) → known_of img ≡ known_as k d → (t : Bool) → ltb (length report) (layout_of k d).slots ≡ t → P (salvage_as (layout_of k d) img report).state
    by_room k d e true h = rw h same
    by_room k d e false h = rw h (mended k d e)

    go : (x : Known) → known_of img ≡ x → P (salvage_of img report).state
    go (Err r) e = rw e same
    go (Ok disk) e = rw e (by_room disk.kind disk.density e (ltb (length report) (layout_of disk.kind disk.density).slots) refl)

unaccepted_outside : (r : Refusal) (img : List ℕ) (c : Call) (i : ℕ) → (Mends img c i → ⊥) → bytes (unaccepted r img c).state i ≡ bytes img i
unaccepted_outside r img check i out = refl
unaccepted_outside r img (list s) i out = refl
unaccepted_outside r img (find name type) i out = refl
unaccepted_outside r img (page s offset o) i out = refl
unaccepted_outside r img (put name type content) i out = refl
unaccepted_outside r img (remove name type) i out = refl
unaccepted_outside r img (salvage report) i out =
    run_leaves (λ x. bytes x i ≡ bytes img i) img report refl (λ k d e. salvage_outside (layout_of k d) img i (rw e at out))

unaccepted-length : (r : Refusal) (img : List ℕ) (c : Call) → length (unaccepted r img c).state ≡ length img
unaccepted-length r img check = refl
unaccepted-length r img (list s) = refl
unaccepted-length r img (find name type) = refl
unaccepted-length r img (page s offset o) = refl
unaccepted-length r img (put name type content) = refl
unaccepted-length r img (remove name type) = refl
unaccepted-length r img (salvage report) =
    run_leaves (λ x. length x ≡ length img) img report refl (λ k d e. salvage_length (layout_of k d) (layout_right k d) img (known_size k d img e))

-- Every other byte is the one before, whatever the bytes and the call.
pub nothing_else : (img : List ℕ) (c : Call) (i : ℕ) → (TouchedBy (check_of img) img c i → ⊥) → bytes (call_of img c).state i ≡ bytes img i
unfolding call_of step_image
nothing_else img c i out = go (check_of img) out
  where
    go : (w : Checked) → (TouchedBy w img c i → ⊥) → bytes (call_by w img c).state i ≡ bytes img i
    go (Err r) out = unaccepted_outside r img c i out
    go (Ok disk) out = step_outside (layout_of disk.kind disk.density) (layout_right disk.kind disk.density) img i c out

-- Nor does the image grow or shrink.
pub length_kept : (img : List ℕ) (c : Call) → length (call_of img c).state ≡ length img
unfolding call_of step_image
length_kept img c = go (check_of img) refl
  where
    go : (w : Checked) → check_of img ≡ w → length (call_by w img c).state ≡ length img
    go (Err r) e = unaccepted-length r img c
    go (Ok disk) e =
        let r = accepted-rules disk.kind disk.density disk.files disk.free img e in (step (shape_of disk.kind disk.density) (layout_right disk.kind disk.density) img r c).rules.size ∙ sym r.size

-- ---- what every call keeps of an accepted image

module _ (k : Kind) (d : Density) (f n : ℕ) (img : List ℕ) (e : check_of img ≡ accepting k d f n) (c : Call) (i : ℕ) where
  abbrev l : Layout
  l = layout_of k d

  fixed : (Changeable l i → ⊥) → bytes (call_of img c).state i ≡ bytes img i
  fixed out = nothing_else img c i (rw e (λ t. out (touches_where l (layout_right k d) img i (accepted-rules k d f n img e) c t)))

  -- system bytes outside directory and map
  pub system_kept : i < block_offset l.first → Outside l.blocks i → (i < l.directory) ⊎ (slot_offset l l.slots ≤ i) → bytes (call_of img c).state i ≡ bytes img i
  system_kept h o q = fixed (system_fixed l (layout_right k d) i h o q)

  -- the identity of every slot of the first directory, which put writes over itself
  pub identity_kept : l.second ≡ false → ((j : ℕ) → bytes img j < 256) → (s : ℕ) → s < l.slots → Within (slot_offset l s + 22) 2 i → bytes (call_of img c).state i ≡ bytes img i
  unfolding call_of step_image
  identity_kept own small s h p = rw e (identity_fixed l (layout_right k d) img (accepted-rules k d f n img e) own small s i h p c)

  -- the map value of every system block
  pub reserved_kept : (b : ℕ) → b < l.first → InMap b i → bytes (call_of img c).state i ≡ bytes img i
  reserved_kept b h p = fixed (reserved_fixed l (layout_right k d) b i h p)

-- The S1000 volume label, from the map's end to the first data block.
pub label_kept : (d : Density) (f n : ℕ) (img : List ℕ) → check_of img ≡ accepting S1000 d f n → (c : Call) (i : ℕ)
    → map_offset (layout_of S1000 d).blocks ≤ i → i < block_offset (layout_of S1000 d).first → bytes (call_of img c).state i ≡ bytes img i
label_kept d f n img e c i p q = system_kept S1000 d f n img e c i q (inr p) (inr (omega arith))

-- Two images that agree at a byte still do once both are written to alike.
-- Put, remove and the salvage run write by `set`, one byte after another; by induction on what is written. Assumes nothing.
use Rattle.std.specs.Prelude.{◌≡◌, refl, ℕ, suc, ◌<◌, length, drop, set, replicate}
use Rattle.std.proofs.Common.{sym, ◌∙◌, arith, length-set, get_or-set_same, get_or-set_other}
use mathlib.Core.List.{List, [], ◌∷◌}
use Rattle.std.proofs.Math.Decide.{dec_lt, ℕ_discrete}
use Rattle.std.proofs.Math.ListN.{get_or-eq_default}
use Rattle.laws.specs.Splice.{splice}
use Rattle.laws.specs.Reader.{bytes}
use Rattle.layout.specs.declared.Layout.{Layout}
use Rattle.layout.specs.Layouts.{slot_offset, map_offset, block_offset}
use Rattle.blocks.specs.Numbers.{digits}
use Rattle.blocks.specs.Blocks.{block_of, write_blocks}
use Rattle.map.specs.Map.{set_map, first_or, link_blocks, set_all}
use Rattle.view.specs.Disk.{Entry}
use Rattle.image.specs.Image.{erase_entry, entry_bytes, set_entry, fill_blocks}
use Rattle.salvage.specs.Salvage.{erase_slots}

-- As long as each other, and the same byte there.
abbrev pub Alike : ℕ → List ℕ → List ℕ → Type 0
Alike i x y = (length y ≡ length x) × (bytes y i ≡ bytes x i)

module _ (i : ℕ) where
  set_alike : (x y : List ℕ) (at v : ℕ) → Alike i x y → Alike i (set x at v) (set y at v)
  set_alike x y at v same = (length-set y at v ∙ same.0 ∙ sym (length-set x at v), go (ℕ_discrete i at) (dec_lt at (length x)))
    where
      past : (z : List ℕ) → length z ≡ length x → i ≡ at → (at < length x → ⊥) → bytes (set z at v) i ≡ 0
      past z n e h = get_or-eq_default (set z at v) 0 (omega (arith, length-set z at v))

      go : Dec (i ≡ at) → Dec (at < length x) → bytes (set y at v) i ≡ bytes (set x at v) i
      go (no n) h = get_or-set_other y at i v 0 n ∙ same.1 ∙ sym (get_or-set_other x at i v 0 n)
      go (yes e) (yes h) = rw e (get_or-set_same y at v 0 (omega (arith, same.0)) ∙ sym (get_or-set_same x at v 0 h))
      go (yes e) (no h) = past y same.0 e h ∙ sym (past x refl e h)

  pub splice_alike : (x y : List ℕ) (at : ℕ) (vs : List ℕ) → Alike i x y → Alike i (splice x at vs) (splice y at vs)
  unfolding splice
  splice_alike x y at [] same = same
  splice_alike x y at (v ∷ vs) same = splice_alike (set x at v) (set y at v) (suc at) vs (set_alike x y at v same)

  map_alike : (x y : List ℕ) (b v : ℕ) → Alike i x y → Alike i (set_map x b v) (set_map y b v)
  unfolding set_map
  map_alike x y b v same = splice_alike x y (map_offset b) (digits 2 v) same

  pub set-all_alike : (x y bs : List ℕ) (v : ℕ) → Alike i x y → Alike i (set_all x bs v) (set_all y bs v)
  unfolding set_all
  set-all_alike x y [] v same = same
  set-all_alike x y (b ∷ bs) v same = set-all_alike (set_map x b v) (set_map y b v) bs v (map_alike x y b v same)

  link_alike : (x y bs : List ℕ) (mark : ℕ) → Alike i x y → Alike i (link_blocks x bs mark) (link_blocks y bs mark)
  unfolding link_blocks
  link_alike x y [] mark same = same
  link_alike x y (b ∷ bs) mark same = link_alike (set_map x b (first_or bs mark)) (set_map y b (first_or bs mark)) bs mark (map_alike x y b (first_or bs mark) same)

  write_alike : (x y bs content : List ℕ) → Alike i x y → Alike i (write_blocks x bs content) (write_blocks y bs content)
  unfolding write_blocks
  write_alike x y [] content same = same
  write_alike x y (b ∷ bs) content same =
      write_alike (splice x (block_offset b) (block_of content)) (splice y (block_offset b) (block_of content)) bs (drop 1024 content)
      (splice_alike x y (block_offset b) (block_of content) same)

  -- a file's content, chain and entry
  pub put_alike : (l : Layout) (x y ks content : List ℕ) (at : ℕ) (e : Entry) → Alike i x y → Alike i (set_entry (fill_blocks l x ks content) at e) (set_entry (fill_blocks l y ks content) at e)
  unfolding set_entry fill_blocks
  put_alike l x y ks content at e same =
      splice_alike (fill_blocks l x ks content) (fill_blocks l y ks content) at (entry_bytes e)
      (link_alike (write_blocks x ks content) (write_blocks y ks content) ks l.mark (write_alike x y ks content same))

  pub erase_alike : (x y : List ℕ) (at : ℕ) → Alike i x y → Alike i (erase_entry x at) (erase_entry y at)
  unfolding erase_entry
  erase_alike x y at same = splice_alike x y at (replicate 22 0) same

  pub erase_slots_alike : (l : Layout) (x y ss : List ℕ) → Alike i x y → Alike i (erase_slots l x ss) (erase_slots l y ss)
  unfolding erase_slots
  erase_slots_alike l x y [] same = same
  erase_slots_alike l x y (s ∷ ss) same = erase_slots_alike l (erase_entry x (slot_offset l s)) (erase_entry y (slot_offset l s)) ss (erase_alike x y (slot_offset l s) same)

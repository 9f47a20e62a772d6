-- Nothing else in the image changes (document 01, "Calls on an accepted disk"): which bytes a call touches, that it keeps every other, and where they lie.
-- By cases on the call and on the record's judgement; blocks that are taken or freed are data blocks. Assumes nothing.
use Rattle.std.specs.Prelude.{◌≡◌, List, ◌⊎◌, ℕ, ◌≤◌, ◌<◌, Ok}
use Rattle.std.proofs.Common.{inl, inr, arith}
use Rattle.layout.specs.declared.Layout.{Layout}
use Rattle.layout.specs.Layouts.{slot_offset, block_offset}
use Rattle.layout.specs.Right.{LayoutRight, DirectoryApart}
use Rattle.map.specs.Map.{Data, Outside}
use Rattle.image.specs.Image.{files_in}
use Rattle.image.specs.Outside.{InSlot, InMap, InBlock, RemoveTouches, PutTouches}
use Rattle.record.specs.Record.{Call, check, list, find, page, put, remove, salvage, judge_name, judge_put}

-- On an accepted image a call that only reads, is refused or salvages touches no byte, and a granted put or remove those of the slot granted.
abbrev pub Touches : Layout → List ℕ → Call → ℕ → Type 0
Touches l img check i = ⊥
Touches l img (list s) i = ⊥
Touches l img (find name type) i = ⊥
Touches l img (page s offset out) i = ⊥
Touches l img (put name type content) i = (s : ℕ) × (judge_put l (files_in l img) name type content ≡ Ok s) × PutTouches l img s content i
Touches l img (remove name type) i = (s : ℕ) × (judge_name l (files_in l img) name type ≡ Ok s) × RemoveTouches l img s i
Touches l img (salvage report) i = ⊥

-- Whatever the call, these are bytes of slots, map values of data blocks, and data blocks.
abbrev pub Changeable : Layout → ℕ → Type 0
Changeable l i = ((s : ℕ) × (s < l.slots) × InSlot l s i) ⊎ ((b : ℕ) × Data l b × InMap b i) ⊎ ((b : ℕ) × Data l b × InBlock b i)

module _ (l : Layout) (right : LayoutRight l) where
  -- ---- what no call changes

  -- a system byte outside directory and map
  pub system_fixed : (i : ℕ) → i < block_offset l.first → Outside l.blocks i → (i < l.directory) ⊎ (slot_offset l l.slots ≤ i) → Changeable l i → ⊥
  system_fixed i h o (inl q) (inl e) = omega (arith, e.2.0)
  system_fixed i h o (inr q) (inl e) = omega (arith, e.1, e.2.1)
  system_fixed i h (inl o) q (inr (inl e)) = omega (arith, e.2.0)
  system_fixed i h (inr o) q (inr (inl e)) = omega (arith, e.1.1, e.2.1)
  system_fixed i h o q (inr (inr e)) = omega (arith, e.1.0, e.2.0)

  -- a byte of a slot lies in no map value
  pub slot_apart : (s b i : ℕ) → DirectoryApart l → s < l.slots → InSlot l s i → b < l.blocks → InMap b i → ⊥
  slot_apart s b i (inl a) h p k q = omega (arith, p.1, q.0)
  slot_apart s b i (inr a) h p k q = omega (arith, p.0, q.1)

  -- a system block's map value
  pub reserved_fixed : (b i : ℕ) → b < l.first → InMap b i → Changeable l i → ⊥
  reserved_fixed b i h p (inl e) = slot_apart e.0 b i right.directory_apart e.1 e.2 (omega (arith, right.data_some)) p
  reserved_fixed b i h p (inr (inl e)) = omega (arith, p.1, e.1.0, e.2.0)
  reserved_fixed b i h p (inr (inr e)) = omega (arith, right.map-low, right.data_some, p.1, e.1.0, e.2.0)

-- Refusal 16 is never due (document 02, request seven): put's order with it and the order without it grant and refuse alike, whatever the record.
-- 15 is asked first, and a content that three bytes of length can't tell needs 16,384 blocks; no data area has as many. Assumes nothing.
use Rattle.std.specs.Prelude.{◌≡◌, refl, Bool, true, false, not, List, ◌↔◌, ltb, eqb, length, Ok}
use Rattle.std.proofs.Math.Path.{ap, fun_ext}
use Rattle.std.proofs.Common.{arith, le-ltb, ltb-false}
use Prim.Native.Nat.{ℕ, ◌≤◌, ◌<◌}
use Rattle.std.proofs.Math.Decide.{dec_lt}
use Rattle.layout.specs.declared.Layout.{Layout}
use Rattle.layout.specs.Layouts.{data_blocks}
use Rattle.layout.specs.Right.{LayoutRight}
use Rattle.blocks.specs.Blocks.{blocks_for}
use Rattle.names.specs.Names.{legal_name, legal_type}
use Rattle.record.specs.Record.{Files, refuse, refuse_if, refuse_at, or_refuse, is_legal, slot_of, empty_slot, free, judge_put, Judged}
use Rattle.record.specs.Order.{room_for}

-- ---- the last refusals

-- 15 alone, for a content of so many bytes where so many blocks are free.
abbrev pub room_without : ℕ → ℕ → ℕ → Judged
room_without free size slot = refuse_if (ltb free (blocks_for size)) 15 (Ok slot)

-- the orders are alike for a content that three bytes of length tell, or that there is no room for
alike_if : (free size slot : ℕ) → (blocks_for size ≤ free → size < 16777216) → room_for free size slot ≡ room_without free size slot
alike_if free size slot h = go (ltb free (blocks_for size)) refl
  where
    go : (t : Bool) → ltb free (blocks_for size) ≡ t → room_for free size slot ≡ room_without free size slot
    go true e = rw e refl
    go false e = let short = h (ltb-false free (blocks_for size) e) in rw (e, le-ltb 16777215 size (omega arith)) refl

-- Alike for every content exactly where fewer than 16,384 blocks are free: with as many, 16,777,216 bytes have room, and are refused by 16.
pub alike_exactly : (free : ℕ) → ((size slot : ℕ) → room_for free size slot ≡ room_without free size slot) ↔ (free < 16384)
alike_exactly free = (λ alike. go alike (dec_lt free 16384), λ few size slot. alike_if free size slot (λ room. omega arith))
  where
    go : ((size slot : ℕ) → room_for free size slot ≡ room_without free size slot) → Dec (free < 16384) → free < 16384
    go alike (yes few) = few
    go alike (no many) =
        let z : refuse 16 0 ≡ Ok 0 = rw (le-ltb free (blocks_for 16777216) (omega arith)) at (alike 16777216 0) in
        absurd (let o : ◌≡◌ {A = ℕ} 0 1 = cc in omega arith)

-- ---- the order

module _ (l : Layout) (files : Files) (name : List ℕ) (type : ℕ) (content : List ℕ) where
  -- Put's order without 16: 11, 13, 12, 14, 15.
  unfoldable pub judge_without : Judged
  unfolding legal_name legal_type slot_of empty_slot free
  judge_without =
      refuse_if (not (is_legal l name type)) 11
      (refuse_if (eqb (length content) 0) 13
      (refuse_at 12 (slot_of l files name type)
      (or_refuse 14 (empty_slot l files) (λ s.
      room_without (free l files) (length content) s))))

module _ (l : Layout) (right : LayoutRight l) where
  -- A content over 16,777,215 bytes needs more blocks than the data area has.
  pub long_needs_more : (size : ℕ) → 16777215 < size → data_blocks l < blocks_for size
  long_needs_more size long = omega (arith, right.blocks_most)

  module _ (files : Files) where
    pub free_few : free l files < 16384
    unfolding free
    free_few = omega (arith, right.blocks_most)

    -- A content that there is room for has a length of three bytes.
    pub room_short : (size : ℕ) → blocks_for size ≤ free l files → size < 16777216
    room_short size room = omega (arith, free_few)

    pub same_orders : (name : List ℕ) (type : ℕ) (content : List ℕ) → judge_put l files name type content ≡ judge_without l files name type content
    unfolding judge_put judge_without
    same_orders name type content =
        ap (λ (next : ℕ → Judged). refuse_if (not (is_legal l name type)) 11 (refuse_if (eqb (length content) 0) 13 (refuse_at 12 (slot_of l files name type) (or_refuse 14 (empty_slot l files) next))))
        (fun_ext (λ s. (alike_exactly (free l files)).1 free_few (length content) s))

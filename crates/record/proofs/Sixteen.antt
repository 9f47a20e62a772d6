-- Refusal 16 is never due (document 02, request seven): put's order with it and the order without it grant and refuse alike, whatever the record.
-- 15 is asked first, and a content that three bytes of length can't tell needs 16,384 blocks; no data area has as many. Assumes nothing.
use Rattle.std.specs.Prelude.{◌≡◌, refl, true, List, length, Some, None}
use Rattle.std.proofs.Common.{◌∙◌, arith, lt-ltb}
use Prim.Native.Nat.{ℕ, ◌<◌}
use Rattle.layout.specs.declared.Layout.{Layout}
use Rattle.layout.specs.Right.{LayoutRight}
use Rattle.blocks.specs.Blocks.{blocks_for}
use Rattle.record.specs.Record.{Files, refuse, is_legal, slot_of, empty_slot, free, judge_put}
use Rattle.record.specs.Order.{order_room}
use Rattle.record.specs.Sixteen.{free_few}

-- ---- the order

module _ (l : Layout) (right : LayoutRight l) where
  module _ (files : Files) where
    -- So a put of one is refused for room, if by nothing before.
    pub long_unroomed : (name : List ℕ) (type : ℕ) (content : List ℕ) → is_legal l name type ≡ true → slot_of l files name type ≡ None → {s : ℕ} → empty_slot l files ≡ Some s
        → 16777215 < length content → judge_put l files name type content ≡ refuse 15 0
    long_unroomed name type content legal new slot long =
        order_room l files name type content legal (λ e. omega arith) new slot
        ∙ rw (lt-ltb (free l files) (blocks_for (length content)) (omega (arith, free_few l right files))) refl

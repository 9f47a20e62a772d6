-- What the report says of a slot, and why: `report_exactly`; and 5 by itself: `report_five`.
-- The rules of slots are asked in turn, and a test holds exactly where its rule is broken. Assumes nothing.
use Rattle.std.specs.Prelude.{◌≡◌, true, false, ℕ, ◌≤◌, ◌<◌}
use Rattle.layout.specs.declared.Layout.{Layout}
use Rattle.view.specs.Disk.{View, used, Namesakes}
use Rattle.view.specs.Broken.{Rule, turn, Breaks}
use Rattle.salvage.specs.Salvage.{report_of}

-- The rules of slots: 4, 5, 6 and 7, 8.
abbrev pub OfSlots : Rule → Type 0
OfSlots r = (1 ≤ turn r) × (turn r ≤ 4)

-- What is said of slot s of a disk.
pub data Said (l : Layout) (v : View) (s : ℕ) : ℕ → Type 0 where
  -- 0: it is empty
  empty : used (v.entry s) ≡ false → Said l v s 0
  -- 1: it is used, and breaks no rule of slots
  kept : used (v.entry s) ≡ true → ((r : Rule) → OfSlots r → (n : ℕ) → Breaks l v r n s → ⊥) → Said l v s 1
  -- else the number of a rule that it breaks, and it breaks none that is asked before
  dropped : (r : Rule) {n : ℕ} → OfSlots r → Breaks l v r n s → ((other : Rule) → OfSlots other → turn other < turn r → (m : ℕ) → Breaks l v other m s → ⊥) → Said l v s n

-- ---- 5

module _ (l : Layout) (v : View) (s : ℕ) where
  -- The name and the type of slot s stand in a kept lower slot.
  abbrev pub KeptBelow : Type 0
  KeptBelow = (t : ℕ) × (t < s) × (report_of l v t ≡ 1) × Namesakes (v.entry s) (v.entry t)

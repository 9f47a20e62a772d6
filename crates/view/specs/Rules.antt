-- Refusals 3 to 9 as a cascade of searches in document 01's order, each at its lowest place. Assumes nothing.
use Rattle.std.specs.Prelude.{Bool, not, ℕ, ◌-◌, eqb, Ok, None, Some, Err, Result, ⊤}
use Rattle.laws.specs.Truth.{both}
use Rattle.laws.specs.Refusals.{refusal_at}
use Rattle.laws.specs.Scan.{lowest, any, Lowest}
use Rattle.laws.specs.Lists.{meets}
use Rattle.laws.specs.Member.{has}
use Rattle.layout.specs.declared.Layout.{Layout}
use Rattle.blocks.specs.Blocks.{links_for}
use Rattle.map.specs.Map.{Walk, walk, is_whole, fault_of}
use Rattle.view.specs.Disk.{View, used, formed, has_name, chain_of, owned}
use Rattle.laws.specs.declared.Refusal.{Refusal}

-- What the disk rules say of a disk: it passes, or is refused.
abbrev pub Ruled : Type 0
Ruled = Result ⊤ Refusal

-- The refusal at the place found, or what comes next.
abbrev pub or_fail : (ℕ → ℕ) → Lowest → Ruled → Ruled
or_fail number (Some k) next = Err (refusal_at (number k) k)
or_fail number None next = next

module _ (l : Layout) (v : View) where
  -- 3: a system block doesn't hold the system value
  unfoldable pub bad_system : ℕ → Bool
  bad_system k = not (eqb (v.map k) l.reserved)

  -- 4: a used slot is malformed
  unfoldable pub malformed : ℕ → Bool
  unfolding used formed
  malformed s = both (used (v.entry s)) (not (formed l (v.entry s)))

  -- 5: its name and its type stand in a lower slot, which is used as it is
  unfoldable pub has_name_of : ℕ → ℕ → Bool
  unfolding has_name
  has_name_of s t = has_name (v.entry s).area (v.entry s).type (v.entry t)

  unfoldable pub repeated : ℕ → Bool
  unfolding used has_name_of any
  repeated s = both (used (v.entry s)) (any (has_name_of s) 0 s)

  -- 6 and 7: its chain has a fault
  unfoldable pub walk_of : ℕ → Walk
  unfolding walk
  walk_of s = walk l v.map (links_for (v.entry s).size) (v.entry s).start

  unfoldable pub broken : ℕ → Bool
  unfolding used walk_of
  broken s = both (used (v.entry s)) (not (is_whole (walk_of s)))

  -- 8: a block of its chain is a lower slot's too
  unfoldable pub sharing : ℕ → Bool
  unfolding meets owned chain_of
  sharing s = meets (owned v s) (chain_of v s)

  -- 9: a data block's map value isn't 0, and no chain has the block
  unfoldable pub stray : ℕ → Bool
  unfolding has owned
  stray b = both (not (eqb (v.map b) 0)) (not (has (owned v l.slots) b))

  unfoldable pub rules : Ruled
  unfolding lowest bad_system malformed repeated broken sharing stray walk_of
  rules =
      or_fail (λ k. 3) (lowest bad_system 0 l.system)
      (or_fail (λ s. 4) (lowest malformed 0 l.slots)
      (or_fail (λ s. 5) (lowest repeated 0 l.slots)
      (or_fail (λ s. fault_of (walk_of s)) (lowest broken 0 l.slots)
      (or_fail (λ s. 8) (lowest sharing 0 l.slots)
      (or_fail (λ b. 9) (lowest stray l.first (l.blocks - l.first))
      (Ok tt))))))

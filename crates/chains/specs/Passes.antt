-- Refusals 6 to 9 of a disk, and what the walk of all chains leaves. Assumes nothing.
use Rattle.std.specs.Prelude.{◌≡◌, Bool, List, ℕ, ◌-◌, Ok, Err}
use Rattle.laws.specs.Scan.{lowest, count}
use Rattle.layout.specs.declared.Layout.{Layout}
use Rattle.map.specs.Map.{fault_of, Marks}
use Rattle.view.specs.Disk.{View, owned}
use Rattle.view.specs.Rules.{walk_of, broken, sharing, stray, or_fail, Ruled}
use Rattle.laws.specs.Member.{has}
use Rattle.laws.specs.Refusals.{Counted}

-- Refusals 6 to 9.
unfoldable pub chain_rules : Layout → View → Ruled
unfolding lowest broken sharing stray walk_of
chain_rules l v =
    or_fail (λ s. fault_of (walk_of l v s)) (lowest (broken l v) 0 l.slots)
    (or_fail (λ s. 8) (lowest (sharing l v) 0 l.slots)
    (or_fail (λ b. 9) (lowest (stray l v) l.first (l.blocks - l.first))
    (Ok tt)))

-- The refusal, else the number of free blocks.
abbrev pub or_free : Ruled → ℕ → Counted
or_free (Ok _) n = Ok n
or_free (Err r) n = Err r

-- The fault of the lowest slot whose chain has one, and, where there is none, the marks of all chains.
pub record Followed (l : Layout) (v : View) (marks : List Bool) (r : Ruled) : Type 0 where
  pub fault : r ≡ or_fail (λ s. fault_of (walk_of l v s)) (lowest (broken l v) 0 l.slots) (Ok tt)
  pub marks_all : r ≡ Ok tt → Marks 1600 marks (owned v l.slots)

-- How many data blocks are on chains.
abbrev pub taken : Layout → View → ℕ
taken l v = count (has (owned v l.slots)) l.first (l.blocks - l.first)

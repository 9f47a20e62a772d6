-- `chains::count_marked` meets its contract: the marked blocks counted and those of the blocks left are all of them.
-- Each turn is one law of a count. Assumes nothing.
use Rattle.std.proofs.Common.{◌≡◌, Bool, false, List, ℕ, ◌+◌, ◌-◌, ◌≤◌, get_or}
use Rattle.laws.specs.Scan.{count}
use Rattle.layout.specs.declared.Layout.{Layout}
use Rattle.chains.proofs.count_marked.Given as goal

abbrev pub is_marked : List Bool → ℕ → Bool
is_marked marks block = get_or marks block false

abbrev pub Counting : Layout → List Bool → ℕ → ℕ → Type 0
Counting l marks marked i =
    (marked ≤ i) × (marked + count (is_marked marks) (l.first + i) (l.blocks - (l.first + i)) ≡ count (is_marked marks) l.first (l.blocks - l.first))

abbrev pub invariant-loop-mark : goal.invariant-loop-mark
invariant-loop-mark l = Counting l.fn.head.layout l.marks l.marked l.mark-index

-- `slots::count_formed` meets its contract: the lowest malformed slot of those left is that of all, and the slots counted and those of the rest are all used ones.
-- One search, by its laws; each slot passed is used, and counted, or it isn't. Assumes nothing.
use Rattle.std.proofs.Common.{◌≡◌, Bool, ℕ, ◌+◌, ◌-◌, ◌≤◌}
use Rattle.image.specs.Image.{view_of}
use Rattle.laws.specs.Lemmas.Search.{Searched}
use Rattle.laws.specs.Reader.{bytes}
use Rattle.laws.specs.Scan.{count}
use Rattle.layout.specs.declared.Layout.{Layout}
use Rattle.view.specs.Disk.{used}
use Rattle.view.specs.Rules.{malformed}
use Rattle.slots.proofs.count_formed.Given as goal

abbrev pub is_used : Layout → (ℕ → ℕ) → ℕ → Bool
is_used l b s = used ((view_of l b).entry s)

abbrev pub invariant-loop-slot : goal.invariant-loop-slot
invariant-loop-slot l =
    Searched (malformed l.layout (view_of l.layout (bytes l.head))) l.layout.slots l.slot × (l.slot ≤ l.layout.slots) × (l.counted ≤ l.slot)
    × (l.counted + count (is_used l.layout (bytes l.head)) l.slot (l.layout.slots - l.slot) ≡ count (is_used l.layout (bytes l.head)) 0 l.layout.slots)

abbrev pub decreases-loop-slot : goal.decreases-loop-slot
decreases-loop-slot l = l.layout.slots - l.slot

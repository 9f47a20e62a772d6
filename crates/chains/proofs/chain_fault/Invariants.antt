-- `chains::chain_fault` meets its contract: the rest of a chain's walk answers as the whole, and the slots left answer as all; marked are
-- the blocks of lower slots' chains. Each way out of a loop and each turn is one law of a walk's steps, of marks or of a search. Assumes nothing.
use Rattle.std.proofs.Common.{◌≡◌, ◌-◌, ◌≤◌}
use Rattle.image.specs.Image.{view_of}
use Rattle.laws.specs.Reader.{bytes}
use Rattle.laws.specs.Scan.{lowest}
use Rattle.map.specs.Map.{map_at, chain, walk, marked, Marks}
use Rattle.view.specs.Disk.{owned}
use Rattle.view.specs.Rules.{walk_of, broken}
use Rattle.chains.proofs.chain_fault.Given as goal

abbrev pub invariant-loop-slot : goal.invariant-loop-slot
invariant-loop-slot l =
    (walk_of l.head.layout (view_of l.head.layout (bytes l.head.bytes.now)) l.slot ≡ walk l.head.layout (map_at (bytes l.head.bytes.now)) l.left l.block)
    × (marked l.initial.marks (chain (map_at (bytes l.head.bytes.now)) l.initial.left l.initial.block) ≡ marked l.marks (chain (map_at (bytes l.head.bytes.now)) l.left l.block))

abbrev pub decreases-loop-slot : goal.decreases-loop-slot
decreases-loop-slot l = l.left

abbrev pub invariant-slots : goal.invariant-slots
invariant-slots l =
    (l.next ≤ l.end) × Marks 1600 l.marks (owned (view_of l.head.layout (bytes l.head.bytes.now)) l.next)
    × (lowest (broken l.head.layout (view_of l.head.layout (bytes l.head.bytes.now))) 0 l.end ≡ lowest (broken l.head.layout (view_of l.head.layout (bytes l.head.bytes.now))) l.next (l.end - l.next))

abbrev pub decreases-slots : goal.decreases-slots
decreases-slots l = l.end - l.next

-- `pages::page_runs` meets its contract: after each run the output's front holds the page's first `done` bytes, and the cost is that of so many.
-- A run lies in one block of the chain, so it is a part of that block of the image, and the next one begins a block. Assumes nothing.
use Rattle.std.proofs.Common.{◌≡◌, List, ℕ, ◌+◌, ◌-◌, ◌%◌, ◌≤◌, ◌<◌, length, take, get_or}
use Rattle.blocks.specs.Blocks.{read_blocks, block_at}
use Rattle.laws.specs.Reader.{bytes}
use Rattle.laws.specs.Splice.{splice, part}
use Rattle.map.specs.Map.{map_at, chain}
use Rattle.pages.specs.Cost.{cost_of}
use Rattle.pages.proofs.page_runs.Given as goal

-- the page, as the contract has it
abbrev pub page : List ℕ → ℕ → ℕ → ℕ → ℕ → List ℕ
page image links start offset count = part (read_blocks (block_at (bytes image)) (chain (map_at (bytes image)) links start)) offset count

-- where the walk stands, what was copied, what that cost
abbrev pub invariant-loop-done : goal.invariant-loop-done
invariant-loop-done l =
    (l.j ≤ l.links) × (l.block ≡ get_or (chain (map_at (bytes l.image)) l.links l.start) l.j 0) × (l.done ≤ l.count)
    × (length l.out ≡ length l.initial.out) × (l.out ≡ splice l.initial.out 0 (take l.done (page l.image l.links l.start l.offset l.count)))
    × (l.followed ≡ l.j) × (l.j ≡ (cost_of (l.links + 1) l.offset l.done).links) × (l.runs ≡ (cost_of (l.links + 1) l.offset l.done).runs) × (1 ≤ l.done → l.done < l.count → (l.offset + l.done) % 1024 ≡ 0)

abbrev pub decreases-loop-done : goal.decreases-loop-done
decreases-loop-done l = l.count - l.done

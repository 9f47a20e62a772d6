-- `mend::chain_said` meets its contract: what is said of the rest of the chain, after what was met so far, is what is said of the whole chain, and the blocks
-- gone through are noted. The block in hand is a data block before it is looked up, so below 1,600. Assumes nothing.
use Rattle.std.proofs.Common.{◌≡◌, false, ◌-◌, ◌≤◌, get_or}
use Rattle.laws.specs.Reader.{bytes}
use Rattle.map.specs.Map.{map_at, chain}
use Rattle.mend.specs.Lemmas.Noting.{Noting}
use Rattle.mend.specs.Steps.{chain_said}
use Rattle.mend.proofs.chain_said.Given as goal

abbrev pub invariant-loop-links : goal.invariant-loop-links
invariant-loop-links l =
    (l.k ≤ l.links)
    × (chain_said l.image.layout (map_at (bytes l.image.bytes.now)) l.marks false l.links l.start ≡ chain_said l.image.layout (map_at (bytes l.image.bytes.now)) l.marks l.shared (l.links - l.k) l.block)
    × (l.block ≡ get_or (chain (map_at (bytes l.image.bytes.now)) l.links l.start) l.k 0) × Noting l.list (chain (map_at (bytes l.image.bytes.now)) l.links l.start) l.k

abbrev pub decreases-loop-links : goal.decreases-loop-links
decreases-loop-links l = l.links - l.k

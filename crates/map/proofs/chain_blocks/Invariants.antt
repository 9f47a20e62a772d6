-- `map::chain_blocks` meets its contract: the k blocks in the list and the rest of the chain are the whole chain.
-- A faultless chain is no longer than the data area, so the array holds it. Assumes nothing.
use Rattle.std.proofs.Common.{◌≡◌, ◌+◌, ◌-◌, get_or, replicate}
use Rattle.laws.specs.Reader.{bytes}
use Rattle.map.specs.Lemmas.Collect.{Collecting}
use Rattle.map.specs.Map.{map_at, chain}
use Rattle.map.proofs.chain_blocks.Given as goal

abbrev pub invariant-loop-k : goal.invariant-loop-k
invariant-loop-k l =
    (l.block ≡ get_or (chain (map_at (bytes l.image)) l.links l.start) l.k 0)
    × (l.blocks.1.0 ≡ l.links + 1)
    × Collecting (replicate 1600 0) (chain (map_at (bytes l.image)) l.links l.start) l.blocks.0 (chain (map_at (bytes l.image)) (l.links - l.k) l.block) l.k

-- `map::mark_chain` meets its contract: marking the rest of the chain makes what marking the whole of it makes.
-- The block in hand is one of a faultless chain, so below 1,600. Assumes nothing.
use Rattle.std.proofs.Common.{◌≡◌, ◌-◌, get_or}
use Rattle.laws.specs.Reader.{bytes}
use Rattle.map.specs.Map.{map_at, chain, marked}
use Rattle.map.proofs.mark_chain.Given as goal

abbrev pub invariant-loop : goal.invariant-loop
invariant-loop l =
    (l.block ≡ get_or (chain (map_at (bytes l.image)) l.links l.start) l.counter 0)
    × (marked l.initial.marks (chain (map_at (bytes l.image)) l.links l.start) ≡ marked l.marks (chain (map_at (bytes l.image)) (l.links - l.counter) l.block))

-- `map::touches` meets its contract: what the rest of the chain touches is what the whole chain touches.
-- The block in hand is one of a faultless chain, so below 1,600. Assumes nothing.
use Rattle.std.proofs.Common.{◌≡◌, ◌-◌, get_or}
use Rattle.laws.specs.Reader.{bytes}
use Rattle.map.specs.Map.{map_at, chain, touched}
use Rattle.map.proofs.touches.Given as goal

abbrev pub invariant-loop : goal.invariant-loop
invariant-loop l =
    (l.block ≡ get_or (chain (map_at (bytes l.image)) l.links l.start) l.counter 0)
    × (touched l.marks (chain (map_at (bytes l.image)) l.links l.start) ≡ touched l.marks (chain (map_at (bytes l.image)) (l.links - l.counter) l.block))

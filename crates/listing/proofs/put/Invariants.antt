-- `listing::put` meets its contract: each turn stores a byte of the word at its place, or finds that there is none left.
-- The invariant: the output holds the word's first bytes from the index on. Assumes nothing.
use Rattle.std.proofs.Common.{◌≡◌, take}
use Rattle.laws.specs.Splice.{splice}
use Rattle.listing.proofs.put.Given as goal

abbrev pub invariant-loop-i : goal.invariant-loop-i
invariant-loop-i l = l.out ≡ splice l.initial.out l.at (take l.i l.word)

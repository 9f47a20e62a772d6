-- `slots::stands_below` meets its contract: the lower slots from the one in hand on upwards don't have name and type, and the table leads to the next lower one with the hash.
-- A slot has the two keys and the type exactly if it has name and type, and then it has the hash. Assumes nothing.
use Rattle.laws.specs.Reader.{bytes}
use Rattle.slots.specs.Lemmas.Hashes.{Passed}
use Rattle.slots.proofs.stands_below.Given as goal

abbrev pub invariant-loop-next : goal.invariant-loop-next
invariant-loop-next l = Passed l.layout (bytes l.head) l.slot l.next

abbrev pub decreases-loop-next : goal.decreases-loop-next
decreases-loop-next l = l.next

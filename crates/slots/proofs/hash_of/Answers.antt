-- `slots::hash_of` meets its contract: the hash is of the numbers of the name's two halves and the type.
-- By what the keys and the type are; a remainder is below its divisor. Assumes nothing.
use Rattle.std.proofs.Common.{◌∙◌, arith}
use Rattle.slots.specs.Lemmas.Hashes.{same_hash}
use Rattle.slots.proofs.hash_of.Goals as goal

pub returns : goal.returns
returns c =
    let k = c.of_slot-low.ensures in
    record { value = same_hash k.low k.high (c.from-letter.ensures ∙ k.letter); small = omega arith }

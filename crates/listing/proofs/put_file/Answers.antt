-- `listing::put_file` meets its contract: the type's letter, length, and the name in brackets, one after another.
-- By joining what the calls put; a name has at most 12 letters. Assumes nothing.
use Rattle.std.proofs.Common.{arith}
use Rattle.listing.specs.Lemmas.Puts.{puts_near, puts_then}
use Rattle.listing.proofs.put_file.Goals as goal

pub returns : goal.returns
returns c =
    let name = puts_near c.put-next-3.ensures 12 (omega (arith, c.put-next-3.ensures.near, c.requires.0)) in
    puts_then (puts_then (puts_then (puts_then (rw c.letter_of.ensures at c.put-next.ensures) c.put_number-next.ensures) c.put-next-2.ensures) name) c.put.ensures

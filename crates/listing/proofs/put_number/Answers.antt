-- `listing::put_number` meets its contract: after the word stand the digits that `io` makes, of which there are at most 20.
-- These are the fewest that hold the number, so they are its decimal digits. Assumes nothing.
use Rattle.std.proofs.Common.{arith}
use Rattle.listing.specs.Lemmas.Puts.{puts_near, puts_then, decimal_short, digits_decimal}
use Rattle.listing.proofs.put_number.Goals as goal

pub put-requires : goal.put-requires
put-requires c =
    let n = c.args.number in
    (rw (digits_decimal n _ _ c.decimal-count.ensures.len c.decimal-count.ensures.digits) (omega (arith, decimal_short 19 n (omega (arith, c.ranges.number)))), omega arith)

pub returns : goal.returns
returns c =
    let n = c.args.number in
    let p = rw (digits_decimal n _ _ c.decimal-count.ensures.len c.decimal-count.ensures.digits) at c.put.ensures in
    puts_then c.put-next.ensures (puts_near p 20 (omega (arith, p.count, decimal_short 19 n (omega (arith, c.ranges.number)))))

-- `listing::put_checked` meets its contract: an accepted image's answer has four parts, a refused one's is the refusal's.
-- By joining what the calls put. Assumes nothing.
use Rattle.std.proofs.Common.{◌≡◌, rules, arith}
use Rattle.listing.specs.Lemmas.Puts.{puts_near, puts_then}
use Rattle.record.specs.Record.{kind_number}
use Rattle.listing.proofs.put_checked.Goals as goal

pub returns-after-disk : goal.returns-after-disk
returns-after-disk c =
    let number : c.match-disk.put_number ≡ kind_number c.in-Ok.disk.kind = search rules in
    let kind = rw number at c.put_number-next.ensures in
    rw c.in-Ok.is
    (puts_then (puts_then (puts_then kind c.put_density-next.ensures) c.put_number-next-in-Ok.ensures) c.put_number.ensures)

pub returns-in-Err : goal.returns-in-Err
returns-in-Err c = rw c.in-Err.is (puts_near c.put_refused.ensures 79 (omega arith))

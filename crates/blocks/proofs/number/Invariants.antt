-- `blocks::number` meets its contract: from the last byte to the first, a byte and 256 times what was read is the number one byte wider.
-- One law over the width, `number_next`. Assumes nothing.
use Rattle.std.proofs.Common.{◌-◌, ◌+◌}
use Rattle.laws.specs.Reader.{bytes}
use Rattle.blocks.specs.Numbers.{Number}
use Rattle.blocks.proofs.number.Given as goal

abbrev pub invariant-loop-i : goal.invariant-loop-i
invariant-loop-i g l = Number (g.row.N - l.i) (bytes l.source) (l.at + l.i) l.number

-- `blocks::store` meets its contract: what is still to store, stored, gives what the whole number would have given.
-- One law over the width, `store_next`. Assumes nothing.
use Rattle.std.proofs.Common.{◌≡◌, ◌-◌, ◌+◌}
use Rattle.laws.specs.Splice.{splice}
use Rattle.blocks.specs.Numbers.{digits}
use Rattle.blocks.proofs.store.Given as goal

abbrev pub invariant-loop-i : goal.invariant-loop-i
invariant-loop-i g l = splice l.target (l.at + l.i) (digits (g.row.N - l.i) l.rest) ≡ splice l.initial.target l.at (digits g.row.N l.value)

-- `blocks::store` meets its contract: what is still to store, stored, gives what the whole number would have given.
-- One law over the width, `store_next`. Assumes nothing.
use Rattle.std.proofs.Common.{◌≡◌, ◌∙◌, List, ℕ, suc, ◌+◌, ◌-◌, ◌%◌, ◌/◌, ◌<◌, set, arith}
use Rattle.blocks.specs.Lemmas.Numbers.{store_next}
use Rattle.blocks.specs.Numbers.{digits}
use Rattle.laws.specs.Splice.{splice}
use Rattle.blocks.proofs.store.Goals as goal

-- a turn, with the index as the code has it
turn : (width : ℕ) (l : List ℕ) (at i v : ℕ) → i < width → splice (set l (at + i) (v % 256)) (at + (i + 1)) (digits (width - (i + 1)) (v / 256)) ≡ splice l (at + i) (digits (width - i) v)
turn width l at i v h =
    let on : at + (i + 1) ≡ at + i + 1 = omega arith in
    let narrower : width - i ≡ suc (width - (i + 1)) = omega arith in
    rw (on, narrower) (store_next (width - (i + 1)) l (at + i) v)

pub loop-i-preserved : goal.loop-i-preserved
loop-i-preserved g c =
    let l = c.loop-i in
    turn g.row.N l.target c.args.at l.i l.rest (omega arith) ∙ l.invariant

pub returns : goal.returns
unfolding digits splice
returns g c = let none : g.row.N - c.loop-i.i ≡ 0 = omega arith in rw none at c.loop-i.invariant

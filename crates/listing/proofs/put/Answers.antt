-- `listing::put` meets its contract: each turn stores a byte of the word at its place, or finds that there is none left.
-- The invariant: the output holds the word's first bytes from the index on. Assumes nothing.
use Rattle.listing.proofs.put.Goals.{then-at-i, else-at-i}
use Rattle.std.proofs.Common.{◌≡◌, refl, sym, ◌∙◌, ◌+◌, arith, get_or, set, take_all}
use Rattle.laws.specs.Lemmas.Splice.{splice_none, splice-turn}
use Rattle.std.proofs.Math.Seq.{set_out}
use Rattle.listing.proofs.put.Goals as goal

pub loop-i-init : goal.loop-i-init
loop-i-init c = splice_none _ _

pub loop-i-preserved : goal.loop-i-preserved
loop-i-preserved c =
    let l = c.loop-i in
    let a = c.args in
    let stored : c.if-at-i.out ≡ set l.out (a.at + l.i) (get_or a.word.now l.i 0) = elim c.if-at-i.branch [
      | then-at-i w ↦ w.out-is
      | else-at-i w ↦ w.out-is ∙ sym (set_out l.out (a.at + l.i) (get_or a.word.now l.i 0) w.if-at-i.false)
    ] in
    stored ∙ splice-turn a.out.now a.at a.word.now l.i l.invariant refl (omega arith) refl

pub returns : goal.returns
returns c =
    let l = c.loop-i in
    record { out = l.invariant ∙ rw (take_all l.i c.args.word.now (omega arith)) refl; count = refl; near = omega arith }

-- `blocks::copy_run` meets its contract: in the end the target is the source.
-- The loop writes the source's elements in order: after i turns the target holds its first i. Assumes nothing.
use Rattle.std.proofs.Common.{refl, arith, length-set}
use Rattle.laws.specs.Lemmas.Splice.{splice_none, splice-turn, splice-done}
use Rattle.blocks.proofs.copy_run.Goals as goal

pub loop-i-init : goal.loop-i-init
loop-i-init c = (refl, splice_none _ 0)

pub loop-i-preserved : goal.loop-i-preserved
loop-i-preserved c =
    let l = c.loop-i in
    (simp length-set l.invariant.0, splice-turn _ 0 c.args.source.now l.i l.invariant.1 (omega arith) (omega arith) refl)

pub returns : goal.returns
returns c =
    let l = c.loop-i in
    let a = c.args in
    splice-done a.target.now a.source.now l.i l.invariant.1 (omega arith) (omega arith)

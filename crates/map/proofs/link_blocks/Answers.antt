-- `map::link_blocks` meets its contract: linking what remains of the blocks makes what linking all of them makes.
-- Each turn sets one map value, as the definition does at each block. Assumes nothing.
use Rattle.std.proofs.Common.{sym, ◌∙◌, arith}
use Rattle.map.specs.Lemmas.Linking.{link_end, link_next}
use Rattle.map.proofs.link_blocks.Goals as goal

pub loop-k-preserved : goal.loop-k-preserved
loop-k-preserved c =
    let l = c.loop-k in
    let a = c.args in
    rw (c.set_map.ensures, c.block_of.ensures.0, c.next_of.ensures) (sym (link_next l.image a.chosen.now l.k a.layout.mark (omega arith)) ∙ l.invariant)

pub returns : goal.returns
returns c =
    let l = c.loop-k in
    let a = c.args in
    sym (link_end l.image a.chosen.now l.k a.layout.mark (omega arith)) ∙ l.invariant

-- `map::mark_chain` meets its contract: marking the rest of the chain makes what marking the whole of it makes.
-- The block in hand is one of a faultless chain, so below 1,600. Assumes nothing.
use Rattle.std.proofs.Common.{◌≡◌, refl, sym, ◌∙◌, ◌+◌, ◌-◌, arith}
use Rattle.laws.specs.Reader.{bytes}
use Rattle.map.specs.Lemmas.Chains.{nth_first, nth_data, nth_next}
use Rattle.map.specs.Lemmas.Marks.{mark_last, mark_next}
use Rattle.map.specs.Map.{map_at}
use Rattle.map.proofs.mark_chain.Goals as goal

pub loop-init : goal.loop-init
loop-init c =
    let e : c.args.links - 0 ≡ c.args.links = omega arith in
    (nth_first _ _ _, rw e refl)

pub bounds-marks-block : goal.bounds-marks-block
bounds-marks-block c = omega (arith, (nth_data c.args.layout (map_at (bytes c.args.image.now)) c.args.links c.args.start c.loop.counter c.requires.2 (omega arith) c.loop.invariant.0).1, c.requires.1.blocks_most)

pub map_at-block-requires : goal.map_at-block-requires
map_at-block-requires c = omega (arith, (nth_data c.args.layout (map_at (bytes c.args.image.now)) c.args.links c.args.start c.loop.counter c.requires.2 (omega arith) c.loop.invariant.0).1)

pub loop-preserved : goal.loop-preserved
loop-preserved c =
    let a = c.args in
    let z : a.links - (c.loop.counter + 1) ≡ a.links - c.loop.counter - 1 = omega arith in (
      nth_next (map_at (bytes a.image.now)) a.links a.start c.loop.counter c.loop.invariant.0 c.map_at-block.ensures (omega arith) refl,
      rw z (c.loop.invariant.1 ∙ mark_next _ _ _ _ _ c.map_at-block.ensures (λ e. omega arith)),
    )

pub bounds-marks-block-2 : goal.bounds-marks-block-2
bounds-marks-block-2 c = omega (arith, (nth_data c.args.layout (map_at (bytes c.args.image.now)) c.args.links c.args.start c.loop.counter c.requires.2 (omega arith) c.loop.invariant.0).1, c.requires.1.blocks_most)

pub returns : goal.returns
returns c = sym (c.loop.invariant.1 ∙ mark_last _ _ _ _ (omega arith))

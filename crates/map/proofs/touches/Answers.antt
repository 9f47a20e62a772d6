-- `map::touches` meets its contract: what the rest of the chain touches is what the whole chain touches.
-- The block in hand is one of a faultless chain, so below 1,600. Assumes nothing.
use Rattle.std.proofs.Common.{◌≡◌, refl, sym, ◌∙◌, Bool, true, false, ◌+◌, ◌-◌, arith}
use Rattle.laws.specs.Reader.{bytes}
use Rattle.laws.specs.Truth.{pick}
use Rattle.map.specs.Lemmas.Chains.{nth_first, nth_data, nth_next}
use Rattle.map.specs.Lemmas.Marks.{chain_last, touch_first, touch_next}
use Rattle.map.specs.Map.{map_at, touched}
use Rattle.map.proofs.touches.Goals as goal

pick_own : (t : Bool) → pick t true false ≡ t
pick_own true = refl
pick_own false = refl

pub loop-init : goal.loop-init
loop-init c =
    let e : c.args.links - 0 ≡ c.args.links = omega arith in
    (nth_first _ _ _, rw e refl)

pub bounds-marks-block : goal.bounds-marks-block
bounds-marks-block c = omega (arith, (nth_data c.args.layout (map_at (bytes c.args.image.now)) c.args.links c.args.start c.loop.counter c.requires.2 (omega arith) c.loop.invariant.0).1, c.requires.1.blocks_most)

pub returns-then-marks-block : goal.returns-then-marks-block
returns-then-marks-block c = sym (c.loop.invariant.1 ∙ touch_first _ _ _ _ c.if-marks-block.true)

pub map_at-block-requires : goal.map_at-block-requires
map_at-block-requires c = omega (arith, (nth_data c.args.layout (map_at (bytes c.args.image.now)) c.args.links c.args.start c.loop.counter c.requires.2 (omega arith) c.loop.invariant.0).1)

pub loop-preserved : goal.loop-preserved
loop-preserved c =
    let a = c.args in
    let z : a.links - (c.loop.counter + 1) ≡ a.links - c.loop.counter - 1 = omega arith in (
      nth_next (map_at (bytes a.image.now)) a.links a.start c.loop.counter c.loop.invariant.0 c.map_at-block.ensures (omega arith) refl,
      rw z (c.loop.invariant.1 ∙ touch_next _ _ _ _ _ c.map_at-block.ensures c.if-marks-block.false (λ e. omega arith)),
    )

pub bounds-marks-block-2 : goal.bounds-marks-block-2
bounds-marks-block-2 c = omega (arith, (nth_data c.args.layout (map_at (bytes c.args.image.now)) c.args.links c.args.start c.loop.counter c.requires.2 (omega arith) c.loop.invariant.0).1, c.requires.1.blocks_most)

pub returns : goal.returns
unfolding touched
returns c =
    let m = map_at (bytes c.args.image.now) in
    sym (c.loop.invariant.1 ∙ rw (chain_last m (c.args.links - c.loop.counter) c.loop.block (omega arith)) (pick_own _))

-- `map::nth_block` meets its contract: after k turns the block in hand is the k-th of the chain, and k links more are counted.
-- A faultless chain's blocks are data blocks, so each has a map value to read. Assumes nothing.
use Rattle.std.proofs.Common.{refl, arith}
use Rattle.laws.specs.Reader.{bytes}
use Rattle.map.specs.Lemmas.Chains.{nth_first, nth_data, nth_next}
use Rattle.map.specs.Map.{map_at}
use Rattle.map.proofs.nth_block.Goals as goal

pub loop-init : goal.loop-init
loop-init c = (nth_first _ _ _, omega arith)

pub follow-block-requires : goal.follow-block-requires
follow-block-requires c = (omega (arith, (nth_data c.args.layout (map_at (bytes c.args.image.now)) c.args.links c.args.start c.loop.counter c.requires.1 (omega arith) c.loop.invariant.0).1), omega arith)

pub loop-preserved : goal.loop-preserved
loop-preserved c =
    let a = c.args in
    let f = c.follow-block.ensures in
    (nth_next (map_at (bytes a.image.now)) a.links a.start c.loop.counter c.loop.invariant.0 f.value (omega arith) refl, omega (arith, f.followed_after))

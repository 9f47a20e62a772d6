-- `map::chain_blocks` meets its contract: the k blocks in the list and the rest of the chain are the whole chain.
-- A faultless chain is no longer than the data area, so the array holds it. Assumes nothing.
use Rattle.std.proofs.Common.{ℕ, ◌≡◌, refl, ◌-◌, ◌<◌, arith}
use Rattle.laws.specs.Reader.{bytes}
use Rattle.map.specs.Lemmas.Chains.{chain_short, nth_first, nth_data, nth_next}
use Rattle.map.specs.Lemmas.Collect.{collect_none, collect_one, collect_end}
use Rattle.map.specs.Lemmas.Marks.{chain_last, chain-turn}
use Rattle.layout.specs.declared.Layout.{Layout}
use Rattle.layout.specs.Right.{LayoutRight}
use Rattle.map.specs.Map.{map_at, Chained}
use Rattle.map.proofs.chain_blocks.Goals as goal

-- a chain has no more blocks than the disk
short : (l : Layout) (m : ℕ → ℕ) (links start : ℕ) → LayoutRight l → Chained l m links start → links < 1600
short l m links start right h = omega (arith, right.blocks_most, chain_short l right m links start h)

pub loop-k-init : goal.loop-k-init
loop-k-init c =
    let e : c.args.links - 0 ≡ c.args.links = omega arith in
    (nth_first _ _ _, refl, collect_none _ _ (rw e))

pub overflow_cast-blocks : goal.overflow_cast-blocks
overflow_cast-blocks c = omega (arith, (nth_data c.args.layout (map_at (bytes c.args.image.now)) c.args.links c.args.start c.loop-k.k c.requires.2 (omega arith) c.loop-k.invariant.0).1, c.requires.1.blocks_most)

pub bounds-blocks-k : goal.bounds-blocks-k
bounds-blocks-k c = omega (arith, short c.args.layout (map_at (bytes c.args.image.now)) c.args.links c.args.start c.requires.1 c.requires.2)

pub offset_bounds-blocks-k : goal.offset_bounds-blocks-k
offset_bounds-blocks-k c = omega (arith, short c.args.layout (map_at (bytes c.args.image.now)) c.args.links c.args.start c.requires.1 c.requires.2)

pub map_at-block-requires : goal.map_at-block-requires
map_at-block-requires c = omega (arith, (nth_data c.args.layout (map_at (bytes c.args.image.now)) c.args.links c.args.start c.loop-k.k c.requires.2 (omega arith) c.loop-k.invariant.0).1)

pub loop-k-preserved : goal.loop-k-preserved
loop-k-preserved c =
    let l = c.loop-k in
    let a = c.args in
    let m = map_at (bytes a.image.now) in
    let rest = chain-turn m a.links l.k l.block c.map_at-block.result c.map_at-block.ensures (omega arith) in (
      nth_next m a.links a.start l.k l.invariant.0 c.map_at-block.ensures (omega arith) refl,
      l.invariant.1,
      collect_one l.blocks.0 l.k l.block rest l.invariant.2,
    )

pub overflow_cast-blocks-2 : goal.overflow_cast-blocks-2
overflow_cast-blocks-2 c = omega (arith, (nth_data c.args.layout (map_at (bytes c.args.image.now)) c.args.links c.args.start c.loop-k.k c.requires.2 (omega arith) c.loop-k.invariant.0).1, c.requires.1.blocks_most)

pub bounds-blocks-links : goal.bounds-blocks-links
bounds-blocks-links c = short c.args.layout (map_at (bytes c.args.image.now)) c.args.links c.args.start c.requires.1 c.requires.2

pub offset_bounds-blocks-links : goal.offset_bounds-blocks-links
offset_bounds-blocks-links c = omega (arith, short c.args.layout (map_at (bytes c.args.image.now)) c.args.links c.args.start c.requires.1 c.requires.2)

pub overflow_add-blocks : goal.overflow_add-blocks
overflow_add-blocks c = omega (arith, short c.args.layout (map_at (bytes c.args.image.now)) c.args.links c.args.start c.requires.1 c.requires.2)

pub invariant_of-blocks : goal.invariant_of-blocks
invariant_of-blocks c = record { few = omega (arith, short c.args.layout (map_at (bytes c.args.image.now)) c.args.links c.args.start c.requires.1 c.requires.2) }

pub returns : goal.returns
returns c =
    let l = c.loop-k in
    let a = c.args in
    let rest = chain_last (map_at (bytes a.image.now)) (a.links - l.k) l.block (omega arith) in
    let z : l.k ≡ a.links = omega arith in
    collect_end _ (omega (arith, short c.args.layout (map_at (bytes c.args.image.now)) c.args.links c.args.start c.requires.1 c.requires.2)) refl (rw (z, ← l.invariant.1) at (collect_one l.blocks.0 l.k l.block rest l.invariant.2))

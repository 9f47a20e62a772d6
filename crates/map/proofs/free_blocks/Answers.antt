-- `map::free_blocks` meets its contract: the blocks collected and those still wanted of the rest are those wanted of the whole.
-- Each block passed is free, and collected, or it isn't; the loop stops where none is left or none is wanted. Assumes nothing.
use Rattle.std.proofs.Common.{◌≡◌, [], take, sym, ◌∙◌, ◌-◌, ◌<◌, arith}
use Rattle.laws.specs.Reader.{bytes}
use Rattle.map.specs.Lemmas.Collect.{collect_one, collect_end, wanted_end, wanted_full}
use Rattle.map.proofs.Lemmas.Collect.{wanted_stop, wanted_on}
use Rattle.map.specs.Map.{map_at, free_blocks, free_from}
use Rattle.map.proofs.free_blocks.Goals.{then-map_at-eq0, else-map_at-eq0, else-loop-block-test, then-loop-block-test+then-blocks-wanted}
use Rattle.map.proofs.free_blocks.Goals as goal

pub loop-block-preserved : goal.loop-block-preserved
loop-block-preserved c =
    let l = c.loop-block in
    let a = c.args in
    let m = map_at (bytes a.image.now) in
    let end = a.layout.blocks in
    let value = c.map_at.ensures in
    let more : l.blocks.1.0 < a.wanted = omega arith in
    elim c.if-map_at-eq0.branch [
      | then-map_at-eq0 w ↦
          let rest = wanted_stop m l.block end l.blocks.1.0 a.wanted (omega arith) more (sym value ∙ w.if-map_at-eq0.true) in
          rw w.blocks-is (omega arith, omega arith, collect_one l.blocks.0 l.blocks.1.0 l.block rest l.invariant.2)
      | else-map_at-eq0 w ↦
          let rest = wanted_on m l.block end l.blocks.1.0 a.wanted (omega arith) (λ z. w.if-map_at-eq0.false (value ∙ z)) in
          rw (w.blocks-is, ← rest) (omega arith, omega arith, l.invariant.2)
    ]

pub returns : goal.returns
unfolding free_blocks
returns c =
    let l = c.loop-block in
    let m = map_at (bytes c.args.image.now) in
    let none : take (c.args.wanted - l.blocks.1.0) (free_from m l.block (c.args.layout.blocks - l.block)) ≡ [] =
    elim c.loop-block-test.branch [
      | else-loop-block-test w ↦ wanted_end m l.block c.args.layout.blocks l.blocks.1.0 c.args.wanted (omega arith)
      | then-loop-block-test+then-blocks-wanted w ↦ wanted_full m l.block c.args.layout.blocks l.blocks.1.0 c.args.wanted (omega arith)
    ] in
    collect_end _ (omega (arith, c.requires.1.blocks_most)) none l.invariant.2

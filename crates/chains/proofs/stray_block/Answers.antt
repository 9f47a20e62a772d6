-- `chains::stray_block` meets its contract: where the marked and the free blocks are all no other is taken, and else the blocks are searched.
-- Of two tests that count alike the one implies the other (`tally_all`). Assumes nothing.
use Rattle.std.proofs.Common.{sym, arith}
use Rattle.chains.specs.Lemmas.Tally.{free_most, tally_all}
use Rattle.image.specs.Image.{view_of}
use Rattle.laws.specs.Reader.{bytes}
use Rattle.map.specs.Map.{map_at}
use Rattle.chains.proofs.stray_block.Goals as goal

pub overflow_sub-left-2 : goal.overflow_sub-left-2
overflow_sub-left-2 c = omega (arith, c.requires.2, free_most c.args.head.layout (map_at (bytes c.args.head.bytes.now)))

pub returns-then-marked-left : goal.returns-then-marked-left
returns-then-marked-left c =
    let a = c.args in
    let v = view_of a.head.layout (bytes a.head.bytes.now) in
    sym (tally_all a.head.layout c.args.head.right v c.requires.0 (omega (arith, c.requires.1, c.requires.2, c.if-marked-left.true, free_most a.head.layout v.map)))

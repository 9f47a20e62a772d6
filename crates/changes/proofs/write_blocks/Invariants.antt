-- `changes::write_blocks` meets its contract: writing what remains of the content to what remains of the blocks makes what writing all of it makes.
-- Each turn lends one block's part, which comes back as a splice of the content's next 1,024 bytes and zeros. Assumes nothing.
use Rattle.std.proofs.Common.{◌≡◌, ℕ, ◌<◌, length}
use Rattle.std.specs.Iterator.Adapters.{zip_first, zip_second}
use Rattle.std.specs.Slice.Iter.{iter_rest, chunks_rest, chunks_size}
use Rattle.blocks.specs.Blocks.{blocks_for, write_blocks}
use Rattle.laws.specs.Member.{In}
use Rattle.changes.proofs.write_blocks.Given as goal

abbrev pub invariant-loop-block : goal.invariant-loop-block
invariant-loop-block l =
    record {
      can : (goal.iterator-loop-block).can_next l.block-iterator;
      finite : (goal.iterator-loop-block).is_finite l.block-iterator;
      size : chunks_size (zip_second l.block-iterator) ≡ 1024;
      inside : (b : ℕ) → In b (iter_rest (zip_first l.block-iterator)) → b < l.fn.layout.blocks;
      enough : blocks_for (length (chunks_rest (zip_second l.block-iterator))) ≡ length (iter_rest (zip_first l.block-iterator));
      rest : write_blocks l.image (iter_rest (zip_first l.block-iterator)) (chunks_rest (zip_second l.block-iterator)) ≡ write_blocks l.initial.image l.chosen l.content;
    }

-- `map::block_of` meets its contract: an element of the list is the block, below the end as all are.
-- The element at an index is a member of the list. Assumes nothing.
use Rattle.std.proofs.Common.{arith, get_or}
use Rattle.map.specs.Lemmas.Linking.{nth_in}
use Rattle.map.proofs.block_of.Goals as goal

pub returns : goal.returns
returns c = (c.from.ensures, omega (arith, c.from.ensures, c.requires.1 (get_or c.args.list.now c.args.k 0) (nth_in c.args.list.now c.args.k (omega arith))))

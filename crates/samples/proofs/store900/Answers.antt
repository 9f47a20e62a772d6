-- `samples::store900` meets its contract: the pairs and the upper bytes after them are the data.
-- By `packed_halves`. Assumes nothing.
use Rattle.samples.specs.Lemmas.Data.{packed_halves}
use Rattle.samples.proofs.store900.Goals as goal

pub returns : goal.returns
returns c = packed_halves c.args.words.now c.args.out.now c.args.at c.store_pairs.ensures c.store_uppers.ensures

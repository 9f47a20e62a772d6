-- `samples::fill900` meets its contract: the first half and the second half after it are the words.
-- By `unpacked_halves`. Assumes nothing.
use Rattle.laws.specs.Reader.{bytes}
use Rattle.samples.specs.Lemmas.Data.{unpacked_halves}
use Rattle.samples.proofs.fill900.Goals as goal

pub returns : goal.returns
returns c = unpacked_halves (bytes c.args.source.now) c.args.count c.args.words.now c.fill_first.ensures c.fill_second.ensures

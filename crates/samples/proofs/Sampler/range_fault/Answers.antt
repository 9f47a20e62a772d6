-- `samples::Sampler::range_fault` meets its contract: only an S900 has words that its bits do not hold.
-- By the sampler, and by whether all words are held. Assumes nothing.
use Rattle.samples.specs.Lemmas.Steps.{range_short}
use Rattle.samples.proofs.Sampler.range_fault.Goals as goal

pub returns-then-are_short : goal.returns-then-are_short
returns-then-are_short c = range_short c.args.words.now c.in-S900.is c.are_short.ensures c.if-are_short.true

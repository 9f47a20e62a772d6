-- `slots::has_keys` meets its contract: a first key that is another decides alone; else the comparisons of two keys and of the type are the three tests.
-- By what the slot's keys are; the tests are the same in another order. Assumes nothing.
use Rattle.std.proofs.Common.{sym, ◌∙◌}
use Rattle.laws.specs.Reader.{bytes}
use Rattle.slots.specs.Lemmas.Keys.{other_low, keys_told}
use Rattle.slots.proofs.has_keys.Goals as goal

pub returns-then-key-keys : goal.returns-then-key-keys
returns-then-key-keys c =
    let a = c.args in
    sym (other_low a.layout (bytes a.head.now) a.slot a.keys.low a.keys.high a.keys.letter c.key.ensures.value c.offset_of.ensures c.if-key-keys.true)

pub returns : goal.returns
returns c = c.eq.ensures ∙ keys_told c.args.layout _ c.args.slot _ c.args.keys c.of_slot.ensures

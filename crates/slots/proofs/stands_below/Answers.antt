-- `slots::stands_below` meets its contract: the lower slots from the one in hand on upwards don't have name and type, and the table leads to the next lower one with the hash.
-- A slot has the two keys and the type exactly if it has name and type, and then it has the hash. Assumes nothing.
use Rattle.std.proofs.Common.{sym, ◌∙◌, ◌-◌, arith}
use Rattle.laws.specs.Reader.{bytes}
use Rattle.slots.specs.Lemmas.Hashes.{passed_none, passed_found, lower_less, passed_more, passed_all}
use Rattle.slots.specs.Lemmas.Keys.{keyed_name}
use Rattle.slots.proofs.stands_below.Goals as goal

pub loop-next-init : goal.loop-next-init
loop-next-init c =
    passed_none c.args.layout (bytes c.args.head.now) c.of_slot-keys.ensures.small c.args.slot c.requires.2 c.args.top c.requires.4

pub has_keys-requires : goal.has_keys-requires
has_keys-requires c = omega (arith, c.loop-next.invariant.low)

pub returns-then-has_keys : goal.returns-then-has_keys
returns-then-has_keys c =
    let a = c.args in
    let x = c.loop-next.next in
    sym (passed_found a.layout (bytes a.head.now) c.of_slot-keys.ensures.small a.slot c.requires.2 x (x - 1) c.loop-next.invariant (omega arith) (sym (keyed_name a.layout (bytes a.head.now) a.slot (x - 1) c.of_slot-keys.ensures c.has_keys.ensures) ∙ c.if-has_keys.true))

pub bounds-lowers-other : goal.bounds-lowers-other
bounds-lowers-other c =
    omega (arith, c.loop-next.invariant.low, c.requires.3.size)

pub loop-next-smaller : goal.loop-next-smaller
loop-next-smaller c =
    let a = c.args in
    let x = c.loop-next.next in
    rw c.from-next.ensures (lower_less a.layout (bytes a.head.now) c.of_slot-keys.ensures.small a.slot c.requires.2 x (x - 1) c.loop-next.invariant (omega arith) a.lowers.now c.requires.3)

pub loop-next-preserved : goal.loop-next-preserved
loop-next-preserved c =
    let a = c.args in
    let x = c.loop-next.next in
    rw c.from-next.ensures
    (passed_more a.layout (bytes a.head.now) c.of_slot-keys.ensures.small a.slot c.requires.2 x (x - 1) c.loop-next.invariant (omega arith) a.lowers.now c.requires.3
    (sym (keyed_name a.layout (bytes a.head.now) a.slot (x - 1) c.of_slot-keys.ensures c.has_keys.ensures) ∙ c.if-has_keys.false))

pub returns : goal.returns
returns c =
    let a = c.args in
    sym (passed_all a.layout (bytes a.head.now) c.of_slot-keys.ensures.small a.slot c.requires.2 c.loop-next.next c.loop-next.invariant (omega arith))

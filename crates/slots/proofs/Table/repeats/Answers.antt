-- `slots::Table::repeats` meets its contract: an empty slot repeats no file's name and type; of a used one the slots with its hash decide, and then it is the highest of them.
-- What the table holds at the slot's hash is the highest slot below with it. Assumes nothing.
use Rattle.std.proofs.Common.{sym, ◌∙◌}
use Rattle.laws.specs.Reader.{bytes}
use Rattle.slots.specs.Lemmas.Hashes.{tops_same, lowers_same, tops_more, lowers_more, top_held, empty_new, used-repeated}
use Rattle.slots.proofs.Table.repeats.Goals as goal

pub returns-then-not-is_used : goal.returns-then-not-is_used
returns-then-not-is_used c =
    let a = c.args in
    let b = bytes a.head.now in
    let u = sym c.is_used.ensures ∙ c.if-not-is_used.true in
    record {
      answer = sym (empty_new a.layout b a.slot u);
      tops_on = tops_same a.layout b a.slot u _ c.requires.2;
      lowers_on = lowers_same a.layout b a.slot u _ c.requires.3;
    }

pub stands_below-found-requires : goal.stands_below-found-requires
stands_below-found-requires c =
    let h = c.hash_of-hash.ensures in
    (c.requires.0, c.requires.1, sym c.is_used.ensures ∙ c.if-not-is_used.false, c.requires.3, c.from.ensures ∙ top_held _ _ _ _ _ c.requires.2 h.value h.small)

pub returns : goal.returns
returns c =
    let a = c.args in
    let b = bytes a.head.now in
    let u = sym c.is_used.ensures ∙ c.if-not-is_used.false in
    let h = c.hash_of-hash.ensures in
    record {
      answer = used-repeated a.layout b a.slot u c.stands_below-found.ensures;
      tops_on = tops_more a.layout b _ a.slot _ c.requires.2 u h.value h.small;
      lowers_on = lowers_more a.layout b _ a.slot _ c.requires.3 c.requires.1 (top_held _ _ _ _ _ c.requires.2 h.value h.small);
    }

-- `chains::shared_slot` meets its contract: where the counts agree no block is on two chains, and else the slots are searched.
-- A list without repeats has as many numbers as elements (`tally_apart`). Assumes nothing.
use Rattle.std.proofs.Common.{sym, ◌∙◌}
use Rattle.chains.specs.Lemmas.Tally.{tally_apart}
use Rattle.image.specs.Image.{view_of}
use Rattle.laws.specs.Reader.{bytes}
use Rattle.chains.proofs.shared_slot.Goals as goal

pub returns-then-marked-count_chained : goal.returns-then-marked-count_chained
returns-then-marked-count_chained c =
    let a = c.args in
    sym (tally_apart a.head.layout c.args.head.right (view_of a.head.layout (bytes a.head.bytes.now)) c.requires.0 (sym c.requires.1 ∙ c.if-marked-count_chained.true ∙ c.count_chained.ensures))

-- `disk::known` meets its contract: a short head and a wrong length are refusal 1, else the density's kind.
-- By the two lengths. Assumes nothing.
use Rattle.std.proofs.Common.{sym, ◌∙◌}
use Rattle.disk.specs.Lemmas.Steps.{start_short, start-low, start-high, start_none}
use Rattle.disk.proofs.known.Goals as goal

pub returns-then-head-lt17408 : goal.returns-then-head-lt17408
returns-then-head-lt17408 c = start_short _ _ c.if-head-lt17408.true

pub returns-then-length-image_length : goal.returns-then-length-image_length
returns-then-length-image_length c =
    c.known_kind.ensures ∙ start-low _ _ c.if-head-lt17408.false (c.if-length-image_length.true ∙ c.image_length.ensures)

pub returns-then-length-image_length-2 : goal.returns-then-length-image_length-2
returns-then-length-image_length-2 c =
    c.known_kind-then-length-image_length-2.ensures ∙ start-high _ _ c.if-head-lt17408.false (c.if-length-image_length-2.true ∙ c.image_length-2.ensures)

pub returns : goal.returns
returns c =
    start_none _ _ c.if-head-lt17408.false (λ e. c.if-length-image_length.false (e ∙ sym c.image_length.ensures)) (λ e. c.if-length-image_length-2.false (e ∙ sym c.image_length-2.ensures))

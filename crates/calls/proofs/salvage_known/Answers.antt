-- `calls::salvage_known` meets its contract: 21 for a report with under a byte for each slot, else what the run leaves.
-- By the report's length. Assumes nothing.
use Rattle.calls.specs.Lemmas.Salvaging.{as_short, as_done}
use Rattle.calls.proofs.salvage_known.Goals as goal

pub returns-then-report-slots : goal.returns-then-report-slots
returns-then-report-slots c = as_short _ _ _ c.if-report-slots.true

pub returns : goal.returns
returns c =
    let s = c.salvage.ensures in
    as_done _ _ _ c.if-report-slots.false s.value s.report_after s.image_after

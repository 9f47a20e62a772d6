-- `mend::salvage` meets its contract: its passes in turn make the salvaged image, the report and the count.
-- What each pass promises, put together. Assumes nothing.
use Rattle.std.proofs.Common.{arith}
use Rattle.mend.specs.Lemmas.Passes.{counts_few, passes}
use Rattle.mend.specs.Lemmas.Verdicts.{few}
use Rattle.mend.proofs.salvage.Goals as goal

pub erase_dropped-requires : goal.erase_dropped-requires
erase_dropped-requires c =
    let a = c.args in
    let low = few a.layout a.image.now c.judge-end.ensures.value in
    (omega (arith, low, c.requires.0.directory_low, c.requires.0.data_some, c.requires.1), omega (arith, low, c.requires.2))

pub overflow_add-result : goal.overflow_add-result
overflow_add-result c =
    let p = c.requires in
    omega (arith, p.0.system_low, p.0.data_some, p.0.blocks_most, counts_few _ _ _ _ _ _ c.restore_system-restored.ensures.value c.free_strays-freed.ensures.value)

pub returns : goal.returns
returns c =
    let p = c.requires in
    let w =
    passes _ p.0 _ _ p.1 c.judge-end.ensures.report_after c.judge-end.ensures.marks c.judge-end.ensures.value c.erase_dropped.ensures c.restore_system-restored.ensures.image_after c.restore_system-restored.ensures.value c.free_strays-freed.ensures.image_after
    c.free_strays-freed.ensures.value in
    record { value = w.0; report_after = w.1; image_after = w.2 }

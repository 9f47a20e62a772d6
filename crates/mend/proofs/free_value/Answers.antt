-- `mend::free_value` meets its contract: a marked block stays, and any other is set to 0 and counted if it holds another value.
-- A value stored over itself changes nothing. Assumes nothing.
use Rattle.std.proofs.Common.{◌≡◌, ap, ◌∙◌, false, arith, get_or}
use Rattle.laws.specs.Truth.{pick}
use Rattle.map.specs.Map.{set_map}
use Rattle.blocks.specs.Lemmas.Numbers.{number_small}
use Rattle.laws.specs.Reader.{bytes}
use Rattle.layout.specs.Layouts.{map_offset}
use Rattle.mend.specs.Lemmas.Setting.{told, freed-value}
use Rattle.mend.proofs.free_value.Goals.{then-marks-block, else-marks-block}
use Rattle.mend.proofs.free_value.Goals as goal

-- a map value takes two bytes
pub overflow_cast-value : goal.overflow_cast-value
overflow_cast-value c =
    omega (arith, c.map_at-value.ensures, number_small 2 (bytes c.args.image.now) (map_offset c.args.block) (λ i. omega (arith, c.slice_known-1.given i)))

pub returns : goal.returns
returns c =
    let a = c.args in
    let after : c.if-marks-block.after ≡ pick (get_or a.marks.now a.block false) c.map_at-value.result 0 =
    elim c.if-marks-block.branch [
      | then-marks-block w ↦ rw w.if-marks-block.true w.after-is
      | else-marks-block w ↦ rw w.if-marks-block.false w.after-is
    ] in
    let stored = c.set_map.ensures ∙ ap (set_map a.image.now a.block) c.from.ensures in
    let both = freed-value a.image.now a.marks.now a.block c.requires.0 (λ i. omega (arith, c.slice_known-1.given i)) c.map_at-value.ensures after stored (c.from-2.ensures ∙ told _) in
    record { image_after = both.0; value = both.1 }

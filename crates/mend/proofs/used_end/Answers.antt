-- `mend::used_end` meets its contract: past the end in hand no slot is used, so that the used slots below it go as far as all.
-- One search from the top down. Assumes nothing.
use Rattle.std.proofs.Common.{◌≡◌, sym, ap, ◌∙◌, true, false, ℕ, ◌+◌, ◌-◌, ◌<◌, arith}
use Rattle.image.specs.Image.{view_of}
use Rattle.laws.specs.Reader.{bytes}
use Rattle.slots.specs.Hashes.{highest}
use Rattle.slots.specs.Lemmas.Hashes.{highest-here, highest-on}
use Rattle.view.specs.Disk.{View, used}
use Rattle.mend.specs.Steps.{used_end}
use Rattle.mend.proofs.used_end.Goals as goal

-- the end in hand, one slot lower
module _ (v : View) (end : ℕ) (some : 0 < end) where
  back : used_end v (end - 1 + 1) ≡ used_end v end
  back = ap (used_end v) (omega arith)

  here : used (v.entry (end - 1)) ≡ true → end - 1 + 1 ≡ used_end v end
  here u = sym (highest-here (λ s. used (v.entry s)) (end - 1) u) ∙ back

  on : used (v.entry (end - 1)) ≡ false → used_end v (end - 1) ≡ used_end v end
  on u = sym (highest-on (λ s. used (v.entry s)) (end - 1) u) ∙ back

pub returns-then-is_used : goal.returns-then-is_used
returns-then-is_used c = here (view_of c.args.image.layout (bytes c.args.image.bytes.now)) _ (omega (arith, c.loop-slot-test.true)) (sym c.is_used.ensures ∙ c.if-is_used.true) ∙ c.loop-slot.invariant

pub loop-slot-preserved : goal.loop-slot-preserved
loop-slot-preserved c = on (view_of c.args.image.layout (bytes c.args.image.bytes.now)) _ (omega (arith, c.loop-slot-test.true)) (sym c.is_used.ensures ∙ c.if-is_used.false) ∙ c.loop-slot.invariant

pub returns : goal.returns
unfolding highest
returns c =
    let z : c.loop-slot.slot ≡ 0 = omega (arith, c.loop-slot-test.false) in
    rw z at c.loop-slot.invariant

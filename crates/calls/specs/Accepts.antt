-- An image that the check accepted, with the layout of its kind and density: the layout is right, and the image meets the disk rules.
-- From what the check's answer says. Assumes nothing.
use Rattle.std.specs.Prelude.{◌≡◌, List, ℕ, ◌+◌, ◌≤◌, ◌<◌, length, Ok, Err, IsOkAnd}
use Rattle.std.proofs.Common.{sym, ◌∙◌, refl}
use Rattle.layout.specs.declared.Kind.{Kind}
use Rattle.layout.specs.declared.Density.{Density}
use Rattle.layout.specs.declared.Layout.{Layout}
use Rattle.layout.specs.Layouts.{layout_of, slot_offset, block_offset}
use Rattle.layout.specs.Right.{LayoutRight}
use Rattle.image.specs.Image.{DiskRules}
use Rattle.rules.specs.declared.Accepted.{Accepted}
use Rattle.rules.specs.Check.{check_of, Checked, accepting}
use Rattle.calls.specs.Lemmas.Done.{done_needs}
use Rattle.calls.specs.Lemmas.Slots.{slot_held, first_held}

-- The check accepts the image, and the layout is that of the kind and density that it tells.
abbrev pub AcceptedAs : Layout → List ℕ → Type 0
AcceptedAs l img = IsOkAnd (check_of img) (λ (a : Accepted). l ≡ layout_of a.kind a.density)

-- so says a check's answer that was taken apart
pub accepted_by : (img : List ℕ) {c : Checked} {k : Kind} {d : Density} {f n : ℕ} → c ≡ check_of img → c ≡ accepting k d f n → {l : Layout} → l ≡ layout_of k d → AcceptedAs l img
accepted_by img checked said made = rw (sym checked ∙ said) made

module _ (l : Layout) (img : List ℕ) where
  needs_by : (c : Checked) → check_of img ≡ c → IsOkAnd c (λ (a : Accepted). l ≡ layout_of a.kind a.density) → LayoutRight l × DiskRules l img
  needs_by (Ok a) e h = done_needs img refl e h
  needs_by (Err r) e h = absurd h

  module _ (accepted : AcceptedAs l img) where
    pub right_of : LayoutRight l
    right_of = (needs_by (check_of img) refl accepted).0

    pub rules_of : DiskRules l img
    rules_of = (needs_by (check_of img) refl accepted).1

    -- a slot's bytes, and the system blocks, lie in the image
    pub slot_inside : (s : ℕ) → s < l.slots → slot_offset l s + 24 ≤ length img
    slot_inside s h = slot_held l img s right_of rules_of h

    pub first_inside : block_offset l.first ≤ length img
    first_inside = first_held l img right_of rules_of

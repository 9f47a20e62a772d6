-- An image stays of its kind where its disk is valid, the identities are right and byte 16 stays.
-- Slot 0 of a valid disk in the first directory is empty or has a legal type, and 255 is none. Assumes nothing.
use Rattle.std.specs.Prelude.{◌≡◌, Bool, false, ◌↔◌, ℕ, ◌+◌, ◌<◌}
use Rattle.std.proofs.Math.Path.{refl, ap}
use Rattle.std.proofs.Common.{◌∙◌, arith}
use Rattle.std.proofs.Math.Bool.{true}
use Rattle.laws.specs.Lemmas.Truth.{clash}
use Rattle.layout.specs.declared.Layout.{Layout}
use Rattle.layout.specs.Layouts.{slot_offset}
use Rattle.layout.specs.Right.{LayoutRight}
use Rattle.view.specs.Disk.{used, Valid}
use Rattle.view.specs.Lemmas.Formed.{formed-parts, type_range}
use Rattle.image.specs.Image.{entry_at, identity_at, view_of, PassedOver, OfKind}

module _ (l : Layout) (right : LayoutRight l) (c : ℕ → ℕ) (valid : Valid l (view_of l c)) where
  pub not_passed : l.second ≡ false → PassedOver c → ⊥
  unfolding used entry_at
  not_passed e p =
      let w = right.first_directory e in
      let z : slot_offset l 0 + 16 ≡ 16 = omega (arith, w.0) in
      let here : ((view_of l c).entry 0).type ≡ 255 = ap c z ∙ p in
      let in_use : used ((view_of l c).entry 0) ≡ true = rw here refl in
      omega (arith, here, w.2, (type_range l ((view_of l c).entry 0).type (formed-parts l ((view_of l c).entry 0) (valid.legal 0 (w.1, in_use))).type).1)

  pub kind_kept : (b : ℕ → ℕ) → OfKind l b → (l.second ≡ true → c 16 ≡ b 16) → (l.second ≡ false → (s : ℕ) → s < l.slots → identity_at l c s ≡ l.identity) → OfKind l c
  kind_kept b k low own = record { in_use = record { passed_over_is = by l.second refl; dense = k.in_use.dense }; identified = own }
    where
      by : (t : Bool) → l.second ≡ t → PassedOver c ↔ (l.second ≡ true)
      by true e = (λ p. e, λ q. low e ∙ k.in_use.passed_over_is.1 e)
      by false e = (λ p. absurd (not_passed e p), λ q. absurd (clash q e))

-- When the check refuses an image, and by which number at which place: exactly as document 01's table says ("The numbers given back").
-- The density and the kind first, then the cascade of the disk rules. Assumes nothing.
use Rattle.std.specs.Prelude.{◌≡◌, refl, List, ◌↔◌, ℕ, length, Ok, Err}
use Rattle.std.proofs.Common.{sym, ap, ◌∙◌, arith}
use Rattle.std.proofs.Math.Option.{Option, none, some}
use Rattle.laws.specs.declared.Refusal.{Refusal}
use Rattle.laws.specs.Refusals.{refusal_at}
use Rattle.laws.specs.Reader.{bytes}
use Rattle.layout.specs.declared.Kind.{Kind}
use Rattle.layout.specs.declared.Density.{Density}
use Rattle.layout.specs.Layouts.{layout_of, length_of}
use Rattle.layout.proofs.Right.{layout_right}
use Rattle.view.specs.Rules.{rules, Ruled}
use Rattle.view.proofs.Exactly.{refused_due}
use Rattle.image.specs.Image.{view_of, OfKind}
use Rattle.rules.specs.Check.{density_of, kind_of, known_of, check_as, check_of, Known, known_as}
use Rattle.rules.specs.Lemmas.Steps.{known_length, known_kind_is, known_disk, head_unknown, head_known, as_passed, as_failed, refusal_is, unknown_is}
use Rattle.rules.specs.Accepted.{density_is, is_density}
use Rattle.rules.proofs.Accepts.{kind_is, is_kind, known_is, is_known}
use Rattle.rules.specs.Exactly.{Owed, no_density, no_kind, by_rule}

none_some : {A : Type 0} {x : A} → none ≡ some x → ⊥
none_some e = let z : ◌≡◌ {A = ℕ} 0 1 = cc in omega arith

-- what isn't known is owed its refusal
pub unknown_owed : (img : List ℕ) (r : Refusal) → known_of img ≡ Err r → Owed img r
unknown_owed img r e = go (density_of (length img)) refl
  where
    by_kind : (d : Density) → density_of (length img) ≡ some d → (k : Option Kind) → kind_of d (bytes img) ≡ k → Owed img r
    by_kind d p none q =
        let owed : Owed img (refusal_at 2 0) = no_kind d (density_is (length img) d p) (λ k i. none_some (sym q ∙ is_kind d (bytes img) k i)) in
        rw (unknown_is (sym (known_kind_is (bytes img) (length img) d p q) ∙ e)) at owed
    by_kind d p (some k) q =
        let z : known_as k d ≡ Err r = sym (known_disk (bytes img) (length img) d p k q) ∙ e in absurd (let o : ◌≡◌ {A = ℕ} 0 1 = cc in omega arith)

    go : (d : Option Density) → density_of (length img) ≡ d → Owed img r
    go none p =
        let owed : Owed img (refusal_at 1 0) = no_density (λ d i. none_some (sym p ∙ is_density (length img) d i)) in
        rw (unknown_is (sym (known_length (bytes img) (length img) p) ∙ e)) at owed
    go (some d) p = by_kind d p (kind_of d (bytes img)) refl

module _ (img : List ℕ) (r : Refusal) where
  by_rules : (k : Kind) (d : Density) → length img ≡ length_of d → OfKind (layout_of k d) (bytes img) → (w : Ruled) → rules (layout_of k d) (view_of (layout_of k d) (bytes img)) ≡ w
      → check_as k d (bytes img) ≡ Err r → Owed img r
  by_rules k d size kind (Ok _) p e = let q = sym (as_passed (bytes img) d k p) ∙ e in absurd (let z : ◌≡◌ {A = ℕ} 0 1 = cc in omega arith)
  by_rules k d size kind (Err q) p e =
      by_rule k d size kind ((refused_due (layout_of k d) (view_of (layout_of k d) (bytes img)) (layout_right k d) r).0 (p ∙ ap Err (refusal_is (sym (as_failed (bytes img) d k p) ∙ e))))

  by_known : (x : Known) → known_of img ≡ x → check_of img ≡ Err r → Owed img r
  by_known (Err q) p e = let owed = unknown_owed img q p in rw (refusal_is (sym (head_unknown (bytes img) (length img) p) ∙ e)) at owed
  by_known (Ok disk) p e =
      let w = known_is (length img) (bytes img) disk.kind disk.density p in
      by_rules disk.kind disk.density w.0 w.1 (rules (layout_of disk.kind disk.density) (view_of (layout_of disk.kind disk.density) (bytes img))) refl (sym (head_known (bytes img) (length img) p) ∙ e)

owed_refused : (img : List ℕ) (r : Refusal) → Owed img r → check_of img ≡ Err r
owed_refused img r (no_density n) = go (density_of (length img)) refl
  where
    go : (d : Option Density) → density_of (length img) ≡ d → check_of img ≡ Err (refusal_at 1 0)
    go none p = head_unknown (bytes img) (length img) (known_length (bytes img) (length img) p)
    go (some d) p = absurd (n d (density_is (length img) d p))
owed_refused img r (no_kind d p n) = go (kind_of d (bytes img)) refl
  where
    go : (k : Option Kind) → kind_of d (bytes img) ≡ k → check_of img ≡ Err (refusal_at 2 0)
    go none q = head_unknown (bytes img) (length img) (known_kind_is (bytes img) (length img) d (is_density (length img) d p) q)
    go (some k) q = absurd (n k (kind_is d (bytes img) k q))
owed_refused img r (by_rule k d p i due) =
    head_known (bytes img) (length img) (is_known (length img) (bytes img) k d p i)
    ∙ as_failed (bytes img) d k ((refused_due (layout_of k d) (view_of (layout_of k d) (bytes img)) (layout_right k d) r).1 due)

-- An image is refused by a number at a place exactly when that is due to it.
pub refused_exactly : (img : List ℕ) (r : Refusal) → (check_of img ≡ Err r) ↔ Owed img r
refused_exactly img r = (by_known img r (known_of img) refl, owed_refused img r)

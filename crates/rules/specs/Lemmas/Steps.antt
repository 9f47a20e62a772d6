-- The check step by step: by the density, by the kind, by the disk rules.
-- Each step is what its definition says of one case. Assumes nothing.
use Rattle.std.specs.Prelude.{◌≡◌, ℕ, Ok, Err}
use Rattle.std.proofs.Math.Path.{refl, ap}
use Rattle.std.proofs.Math.Option.{none, some}
use Rattle.laws.specs.declared.Refusal.{Refusal}
use Rattle.laws.specs.Refusals.{refusal_at}
use Rattle.layout.specs.declared.Kind.{Kind}
use Rattle.layout.specs.declared.Density.{Density}
use Rattle.layout.specs.Layouts.{layout_of}
use Rattle.map.specs.Map.{map_at, free_count}
use Rattle.view.specs.Rules.{rules}
use Rattle.image.specs.Image.{view_of}
use Rattle.rules.specs.Check.{density_of, kind_of, used_count, known_head, check_as, check_head, accepting, known_as, Checked, Known}
use Rattle.rules.specs.declared.Accepted.{Accepted}
use Rattle.rules.specs.declared.Format.{Format}

-- ---- answers that are alike have the same parts

pub refusal_is : {q r : Refusal} → ◌≡◌ {A = Checked} (Err q) (Err r) → q ≡ r
refusal_is e = cc

pub unknown_is : {q r : Refusal} → ◌≡◌ {A = Known} (Err q) (Err r) → q ≡ r
unknown_is e = cc

pub accepting_is : {j k : Kind} {c d : Density} {f g m n : ℕ} → accepting j c f m ≡ accepting k d g n → (j ≡ k) × (c ≡ d) × (f ≡ g) × (m ≡ n)
accepting_is {j} {k} {c} {d} {f} {g} {m} {n} e =
    let e : ◌≡◌ {A = Accepted} (record { kind = j; density = c; files = f; free = m }) (record { kind = k; density = d; files = g; free = n }) = cc in
    (ap (λ (a : Accepted). a.kind) e, ap (λ (a : Accepted). a.density) e, ap (λ (a : Accepted). a.files) e, ap (λ (a : Accepted). a.free) e)

pub known_as_is : {j k : Kind} {c d : Density} → known_as j c ≡ known_as k d → (j ≡ k) × (c ≡ d)
known_as_is {j} {k} {c} {d} e =
    let e : ◌≡◌ {A = Format} (record { kind = j; density = c }) (record { kind = k; density = d }) = cc in
    (ap (λ (a : Format). a.kind) e, ap (λ (a : Format). a.density) e)

module _ (b : ℕ → ℕ) where
  -- ---- what is known

  pub known_length : (n : ℕ) → density_of n ≡ none → known_head n b ≡ Err (refusal_at 1 0)
  unfolding known_head
  known_length n e = rw e refl

  module _ (n : ℕ) (d : Density) (size : density_of n ≡ some d) where
    pub known_kind_is : kind_of d b ≡ none → known_head n b ≡ Err (refusal_at 2 0)
    unfolding known_head
    known_kind_is e = rw (size, e) refl

    pub known_disk : (k : Kind) → kind_of d b ≡ some k → known_head n b ≡ known_as k d
    unfolding known_head
    known_disk k e = rw (size, e) refl

  -- ---- the check

  pub head_unknown : (n : ℕ) {r : Refusal} → known_head n b ≡ Err r → check_head n b ≡ Err r
  unfolding check_head
  head_unknown n e = rw e refl

  pub head_known : (n : ℕ) {k : Kind} {d : Density} → known_head n b ≡ known_as k d → check_head n b ≡ check_as k d b
  unfolding check_head
  head_known n e = rw e refl

  module _ (d : Density) (k : Kind) where
    pub as_passed : rules (layout_of k d) (view_of (layout_of k d) b) ≡ Ok tt
        → check_as k d b ≡ accepting k d (used_count (layout_of k d) (view_of (layout_of k d) b)) (free_count (layout_of k d) (map_at b))
    unfolding check_as
    as_passed e = rw e refl

    pub as_failed : {r : Refusal} → rules (layout_of k d) (view_of (layout_of k d) b) ≡ Err r → check_as k d b ≡ Err r
    unfolding check_as
    as_failed e = rw e refl

-- Tests: a choice by a test, two tests at once, and what a test that came out one way says.
-- By cases on the test. Assumes nothing.
use Rattle.std.specs.Prelude.{◌≡◌, refl, Bool, true, false, ℕ, ◌≤◌, ◌<◌, leb}
use Rattle.std.proofs.Common.{sym, ◌∙◌, true≢false, le-leb}
use Rattle.std.proofs.lemmas.Bool.{lt-leb}
use Rattle.laws.specs.Truth.{both, within}

pub both_true : (a b : Bool) → both a b ≡ true → (a ≡ true) × (b ≡ true)
both_true true b e = (refl, e)
both_true false b e = absurd (true≢false (sym e))

pub true_both : (a b : Bool) → a ≡ true → b ≡ true → both a b ≡ true
true_both a b p q = rw (p, q) refl

pub both_false : (a b : Bool) → both a b ≡ false → a ≡ true → b ≡ false
both_false true b e p = e
both_false false b e p = absurd (true≢false (sym p))

pub false_both : (a b : Bool) → (a ≡ true → b ≡ false) → both a b ≡ false
false_both true b h = h refl
false_both false b h = refl

-- a number inside a range, below it and above it
pub within_in : (low high v : ℕ) → low ≤ v → v ≤ high → within low high v ≡ true
within_in low high v h k = true_both (leb low v) (leb v high) (le-leb low v h) (le-leb v high k)

pub within_below : (low high v : ℕ) → v < low → within low high v ≡ false
within_below low high v h = rw (lt-leb low v h) refl

pub within_above : (low high v : ℕ) → high < v → within low high v ≡ false
within_above low high v h = false_both (leb low v) (leb v high) (λ e. lt-leb v high h)

-- a test that is both true and false
pub clash : {b : Bool} → b ≡ true → b ≡ false → ⊥
clash p q = true≢false (sym p ∙ q)

pub true_if : (b : Bool) → (b ≡ false → ⊥) → b ≡ true
true_if true h = refl
true_if false h = absurd (h refl)

pub false_if : (b : Bool) → (b ≡ true → ⊥) → b ≡ false
false_if true h = absurd (h refl)
false_if false h = refl

pub same_truth : (a b : Bool) → (a ≡ true → b ≡ true) → (b ≡ true → a ≡ true) → a ≡ b
same_truth true b f g = sym (f refl)
same_truth false b f g = sym (false_if b (λ e. true≢false (sym (g e))))

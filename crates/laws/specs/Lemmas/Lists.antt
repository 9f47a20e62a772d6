-- Tests over lists: all elements pass, two lists are equal, two lists meet. The loop laws read the list from index i on.
-- By induction on the list. Assumes nothing.
use Rattle.std.specs.Prelude.{◌≡◌, refl, Bool, true, false, List, [], ◌∷◌, ◌⊎◌, ℕ, ◌+◌, ◌≤◌, ◌<◌, length, drop, get_or, eqb}
use Rattle.std.proofs.Common.{sym, true≢false, inl, inr, add-one, drop_of_length-le, drop-cons, eqb-true, eq-eqb}
use Rattle.laws.specs.Lemmas.Truth.{both_true, true_both, clash}
use Rattle.laws.specs.Member.{In, has}
use Rattle.laws.specs.Lemmas.Member.{has_in, in_has, out-has}
use Rattle.laws.specs.Lists.{all_of, same, meets}

-- ---- all elements

pub all_of_end : (f : ℕ → Bool) (l : List ℕ) (i : ℕ) → length l ≤ i → all_of f (drop i l) ≡ true
unfolding all_of
all_of_end f l i h = rw (drop_of_length-le l h)

pub all_of_stop : (f : ℕ → Bool) (l : List ℕ) (i : ℕ) → i < length l → f (get_or l i 0) ≡ false → all_of f (drop i l) ≡ false
unfolding all_of
all_of_stop f l i h e = rw (drop-cons l i 0 h, e) refl

pub all_of_on : (f : ℕ → Bool) (l : List ℕ) (i : ℕ) → i < length l → f (get_or l i 0) ≡ true → all_of f (drop i l) ≡ all_of f (drop (i + 1) l)
unfolding all_of
all_of_on f l i h e = rw (drop-cons l i 0 h, e, add-one i) refl

-- ---- equal lists

pub same_refl : (l : List ℕ) → same l l ≡ true
unfolding same
same_refl [] = refl
same_refl (x ∷ l) = true_both (eqb x x) (same l l) (eq-eqb x x refl) (same_refl l)

pub same_true : (a b : List ℕ) → same a b ≡ true → a ≡ b
unfolding same
same_true [] [] e = refl
same_true [] (y ∷ ys) e = absurd (true≢false (sym e))
same_true (x ∷ xs) [] e = absurd (true≢false (sym e))
same_true (x ∷ xs) (y ∷ ys) e = let p = both_true (eqb x y) (same xs ys) e in rw (eqb-true x y p.0, same_true xs ys p.1) refl

-- ---- lists that meet

pub apart_of : (xs ys : List ℕ) → meets xs ys ≡ false → (y : ℕ) → In y ys → In y xs → ⊥
unfolding meets
apart_of xs [] e y i j = i
apart_of xs (z ∷ ys) e y i j = go (apart_of xs ys) (has xs z) refl i
  where
    go : (meets xs ys ≡ false → (x : ℕ) → In x ys → In x xs → ⊥) → (t : Bool) → has xs z ≡ t → (y ≡ z) ⊎ In y ys → ⊥
    go ih true p k = true≢false (rw p at e)
    go ih false p (inl q) = clash (in_has xs z (rw q at j)) p
    go ih false p (inr k) = ih (rw p at e) y k j

pub of_apart : (xs ys : List ℕ) → ((y : ℕ) → In y ys → In y xs → ⊥) → meets xs ys ≡ false
unfolding meets
of_apart xs [] h = refl
of_apart xs (z ∷ ys) h = rw (out-has xs z (h z (inl refl))) (of_apart xs ys (λ y i. h y (inr i)))

pub meeting : (xs ys : List ℕ) → meets xs ys ≡ true → (y : ℕ) × In y ys × In y xs
unfolding meets
meeting xs [] e = absurd (true≢false (sym e))
meeting xs (z ∷ ys) e = go (meeting xs ys) (has xs z) refl
  where
    go : (meets xs ys ≡ true → (y : ℕ) × In y ys × In y xs) → (t : Bool) → has xs z ≡ t → (y : ℕ) × In y (z ∷ ys) × In y xs
    go ih true p = (z, inl refl, has_in xs z p)
    go ih false p = let r = ih (rw p at e) in (r.0, inr r.1, r.2)

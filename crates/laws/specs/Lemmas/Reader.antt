-- Bytes read by their offsets through a function: lists of them, and readers that agree on a range.
-- A definition over a reader computes on sparse bytes as on a real list. Assumes nothing.
use Rattle.std.specs.Prelude.{◌≡◌, refl, List, [], ◌∷◌, ◌++◌, ◌⊎◌, ℕ, zero, suc, ◌+◌, ◌≤◌, ◌<◌, length, get_or}
use Rattle.std.proofs.Common.{ap, ◌∙◌, inl, inr, le_of_suc-le-suc, not-suc-le-zero, suc-add, add-suc, add-zero, zero-add, arith, ext_get_or}
use Rattle.laws.specs.Lemmas.Scan.{over_cong}
use Rattle.laws.specs.Splice.{splice}
use Rattle.laws.specs.Lemmas.Splice.{get_or-splice_below, get_or-splice_past}
use Rattle.laws.specs.Reader.{bytes, tab}

-- c reads as b does at the n offsets from a on
abbrev pub Agree : ℕ → ℕ → (ℕ → ℕ) → (ℕ → ℕ) → Type 0
Agree a n b c = (i : ℕ) → a ≤ i → i < a + n → c i ≡ b i

pub length-tab : (f : ℕ → ℕ) (i n : ℕ) → length (tab f i n) ≡ n
unfolding tab
length-tab f i zero = refl
length-tab f i (suc n) = ap suc (length-tab f (suc i) n)

pub get_or-tab : (f : ℕ → ℕ) (i n k : ℕ) → k < n → get_or (tab f i n) k 0 ≡ f (i + k)
unfolding tab
get_or-tab f i zero k h = absurd (not-suc-le-zero h)
get_or-tab f i (suc n) zero h = rw add-zero refl
get_or-tab f i (suc n) (suc k) h = get_or-tab f (suc i) n k (le_of_suc-le-suc h) ∙ rw (suc-add, add-suc) refl

-- the elements of a list, read one by one
pub tab_is : (f : ℕ → ℕ) (i : ℕ) (vs : List ℕ) → ((k : ℕ) → k < length vs → f (i + k) ≡ get_or vs k 0) → tab f i (length vs) ≡ vs
tab_is f i vs h =
    ext_get_or 0 (tab f i (length vs)) vs (length-tab f i (length vs))
    (λ k p. let q : k < length vs = omega (arith, length-tab f i (length vs)) in get_or-tab f i (length vs) k q ∙ h k q)

pub tab_cong : (b c : ℕ → ℕ) (a n : ℕ) → Agree a n b c → tab c a n ≡ tab b a n
unfolding tab
tab_cong b c a n h = over_cong _ _ [] a n (λ k p q r. ap (λ (x : ℕ). x ∷ r) (h k p q))

-- a byte apart from what is written
pub splice_off : (l : List ℕ) (a : ℕ) (vs : List ℕ) (i : ℕ) → (i < a) ⊎ (a + length vs ≤ i) → bytes (splice l a vs) i ≡ bytes l i
splice_off l a vs i (inl h) = get_or-splice_below l a vs i h
splice_off l a vs i (inr h) = get_or-splice_past l a vs i h

-- two tables, the second where the first ends
tab_shift : (f : ℕ → ℕ) (a i n : ℕ) → tab (λ k. f (a + k)) i n ≡ tab f (a + i) n
unfolding tab
tab_shift f a i zero = refl
tab_shift f a i (suc n) = ap (λ (r : List ℕ). f (a + i) ∷ r) (tab_shift f a (suc i) n ∙ ap (λ (k : ℕ). tab f k n) (add-suc a i))

tab_joined : (f : ℕ → ℕ) (i a n : ℕ) → tab f i a ++ tab f (i + a) n ≡ tab f i (a + n)
unfolding tab
tab_joined f i zero n = rw (add-zero i, zero-add n) refl
tab_joined f i (suc a) n = rw (suc-add a n, add-suc i a, ← suc-add i a) (ap (λ (r : List ℕ). f i ∷ r) (tab_joined f (suc i) a n))

pub tab-append : (f : ℕ → ℕ) (a n : ℕ) → tab f 0 a ++ tab (λ k. f (a + k)) 0 n ≡ tab f 0 (a + n)
tab-append f a n =
    let e : a + 0 ≡ 0 + a = omega arith in
    ap (λ (r : List ℕ). tab f 0 a ++ r) (tab_shift f a 0 n ∙ ap (λ (k : ℕ). tab f k n) e) ∙ tab_joined f 0 a n

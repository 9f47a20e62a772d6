-- Elements followed by zeros up to a size: lengths, elements, and how padding is cut and written.
-- By `replicate` and the laws of append. Assumes nothing.
use Rattle.std.specs.Prelude.{◌≡◌, refl, List, [], ◌∷◌, ◌++◌, ℕ, zero, suc, ◌+◌, ◌-◌, ◌≤◌, ◌<◌, length, take, drop, get_or, replicate}
use Rattle.std.proofs.Common.{sym, ap, ◌∙◌, zero-add, arith, length-append, take_at, ext_get_or}
use Rattle.std.proofs.Math.Decide.{dec_lt}
use Rattle.std.proofs.lemmas.List.{length-replicate, replicate-append-replicate}
use Rattle.std.proofs.Math.ListN.{get_or-append}
use Rattle.laws.specs.Splice.{splice}
use Rattle.laws.specs.Lemmas.Splice.{length-splice, get_or-splice_in, get_or-splice_past, splice-append, splice_all}
use Rattle.laws.specs.Padded.{padded}

pub length-padded : (values : List ℕ) (size : ℕ) → length values ≤ size → length (padded values size) ≡ size
unfolding padded
length-padded values size h = simp (length-append, length-replicate) (omega arith)

pub padded_in : (values : List ℕ) (size i : ℕ) → i < length values → get_or (padded values size) i 0 ≡ get_or values i 0
unfolding padded
padded_in values size i h = get_or-append values (replicate (size - length values) 0) 0 i h

pub get_or_zeros : (n i : ℕ) → ◌≡◌ {A = ℕ} (get_or (replicate n 0) i 0) 0
get_or_zeros zero i = refl
get_or_zeros (suc n) zero = refl
get_or_zeros (suc n) (suc i) = get_or_zeros n i

past : (values : List ℕ) (n i : ℕ) → length values ≤ i → ◌≡◌ {A = ℕ} (get_or (values ++ replicate n 0) i 0) 0
past [] n i h = get_or_zeros n i
past (v ∷ values) n zero h = absurd (omega arith)
past (v ∷ values) n (suc i) h = past values n i (omega arith)

pub padded_past : (values : List ℕ) (size i : ℕ) → length values ≤ i → get_or (padded values size) i 0 ≡ 0
unfolding padded
padded_past values size i h = past values (size - length values) i h

-- what was padded comes first
pub take-padded : (values : List ℕ) (n : ℕ) → take (length values) (padded values n) ≡ values
unfolding padded
take-padded values n = take_at values (replicate (n - length values) 0) (length values) refl

padded-cons : (x : ℕ) (c : List ℕ) (n : ℕ) → padded (x ∷ c) (suc n) ≡ x ∷ padded c n
unfolding padded
padded-cons x c n = let e : suc n - suc (length c) ≡ n - length c = omega arith in rw e

pub padded_nil : (n : ℕ) → padded [] n ≡ replicate n 0
unfolding padded
padded_nil n = let e : n - 0 ≡ n = omega arith in rw e

-- the first n elements padded, and then the rest padded
pub padded_cut : (n : ℕ) (c : List ℕ) (m : ℕ) → padded (take n c) n ++ padded (drop n c) m ≡ padded c (n + m)
padded_cut zero c m = let e : 0 + m ≡ m = omega arith in rw (e, padded_nil)
padded_cut (suc n) [] m = rw (padded_nil (suc n), padded_nil m, padded_nil (suc n + m)) (replicate-append-replicate (suc n) m 0)
padded_cut (suc n) (x ∷ c) m =
    let e : suc n + m ≡ suc (n + m) = omega arith in
    rw (e, padded-cons x (take n c) n, padded-cons x c (n + m)) (ap (λ (r : List ℕ). x ∷ r) (padded_cut n c m))

-- a list whose front was written and whose rest was cleared
pub splice-padded : (l values : List ℕ) → length values ≤ length l
    → splice (splice l 0 values) (length values) (replicate (length l - length values) 0) ≡ padded values (length l)
unfolding padded
splice-padded l values h =
    let zs : List ℕ = replicate (length l - length values) 0 in
    ap (λ (k : ℕ). splice (splice l 0 values) k zs) (sym (zero-add (length values)))
    ∙ splice-append l 0 values zs
    ∙ splice_all l (values ++ zs) (length-append values zs ∙ omega (arith, length-replicate {A = ℕ} (length l - length values) 0))

-- zeros whose front was written
pub splice_zeros : (n : ℕ) (values : List ℕ) → length values ≤ n → splice (replicate n 0) 0 values ≡ padded values n
splice_zeros n values h =
    ext_get_or 0 (splice (replicate n 0) 0 values) (padded values n) (length-splice (replicate n 0) 0 values ∙ length-replicate {A = ℕ} n 0 ∙ sym (length-padded values n h))
    (λ i p. go i (dec_lt i (length values)))
  where
    go : (i : ℕ) → Dec (i < length values) → get_or (splice (replicate n 0) 0 values) i 0 ≡ get_or (padded values n) i 0
    go i (yes p) =
        ap (λ (k : ℕ). get_or (splice (replicate n 0) 0 values) k 0) (sym (zero-add i))
        ∙ get_or-splice_in (replicate n 0) 0 values i (omega (arith, length-replicate {A = ℕ} n 0)) p
        ∙ sym (padded_in values n i p)
    go i (no p) = get_or-splice_past (replicate n 0) 0 values i (omega arith) ∙ get_or_zeros n i ∙ sym (padded_past values n i (omega arith))

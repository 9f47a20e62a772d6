-- Lists made of parts, one for each number of a range, and loops that write such a list part by part.
-- A loop looks forward: what is left, written where it belongs, is the whole written. Assumes nothing.
use Rattle.std.specs.Prelude.{◌≡◌, refl, ℕ, zero, suc, ◌+◌, ◌-◌, ◌*◌, ◌≤◌, ◌<◌, get_or, set}
use Rattle.std.proofs.Math.Path.{sym, ap}
use Rattle.std.proofs.Common.{◌∙◌, zero-add, add-zero, add-suc, suc-add, mul-zero, add_assoc, add_comm, add-one, arith, length-append, get_or-append-add}
use mathlib.Core.List.{List, [], ◌∷◌, ◌++◌, map}
use Rattle.std.proofs.Math.Nat.{sub-zero, mul-suc}
use Rattle.std.proofs.Math.ListN.{length, get_or-append}
use Rattle.std.proofs.lemmas.List.Edits.{sets}
use Rattle.std.proofs.Math.Seq.{length-sets}
use Rattle.laws.specs.Lemmas.Scan.{over_end, over_next, over_cong}
use Rattle.laws.specs.Lemmas.Splice.{sets_append}
use Rattle.laws.specs.Reader.{tab}
use Rattle.words.specs.Words.{parts}

-- a part of one element each
pub parts-tab : (f : ℕ → ℕ) (i n : ℕ) → tab f i n ≡ parts (λ k. f k ∷ []) i n
unfolding parts tab
parts-tab f i n = refl

pub parts-map : {A : Type 0} (g : ℕ → A) (f : ℕ → ℕ) (i n : ℕ) → map g (tab f i n) ≡ parts (λ k. g (f k) ∷ []) i n
unfolding parts tab
parts-map g f i zero = refl
parts-map g f i (suc n) = ap (λ r. g (f i) ∷ r) (parts-map g f (suc i) n)

pub length-parts : {A : Type 0} (f : ℕ → List A) (size : ℕ) → ((k : ℕ) → length (f k) ≡ size) → (i n : ℕ) → length (parts f i n) ≡ size * n
unfolding parts
length-parts f size h i zero = sym (mul-zero size)
length-parts f size h i (suc n) = length-append (f i) (parts f (suc i) n) ∙ rw (h i, length-parts f size h (suc i) n, mul-suc size n) (add_comm size (size * n))

-- an element of a part
pub get_or-parts : (f : ℕ → List ℕ) (size : ℕ) → ((k : ℕ) → length (f k) ≡ size) → (i n k j : ℕ) → k < n → j < size → get_or (parts f i n) (size * k + j) 0 ≡ get_or (f (i + k)) j 0
unfolding parts
get_or-parts f size each i zero k j h l = absurd (omega arith)
get_or-parts f size each i (suc n) zero j h l =
    rw (mul-zero size, zero-add j, add-zero i) (get_or-append (f i) (parts f (suc i) n) 0 j (omega (arith, each i)))
get_or-parts f size each i (suc n) (suc k) j h l =
    let e : size * suc k + j ≡ length (f i) + (size * k + j) = rw (mul-suc size k, each i) (omega arith) in
    ap (λ (m : ℕ). get_or (f i ++ parts f (suc i) n) m 0) e ∙ get_or-append-add (f i) (parts f (suc i) n) (size * k + j) 0
    ∙ get_or-parts f size each (suc i) n k j (omega arith) l ∙ ap (λ (m : ℕ). get_or (f m) j 0) (suc-add i k ∙ sym (add-suc i k))

pub parts_cong : (f g : ℕ → List ℕ) (n : ℕ) → ((k : ℕ) → k < n → f k ≡ g k) → parts f 0 n ≡ parts g 0 n
unfolding parts
parts_cong f g n h = over_cong (λ k r. f k ++ r) (λ k r. g k ++ r) [] 0 n (λ k p q r. ap (λ (x : List ℕ). x ++ r) (h k (omega arith)))

-- pairs one after another
pub parts_pairs : (f : ℕ → ℕ) (i n : ℕ) → parts (λ k. f (2 * k) ∷ f (2 * k + 1) ∷ []) i n ≡ tab f (2 * i) (2 * n)
unfolding parts tab
parts_pairs f i zero = refl
parts_pairs f i (suc n) =
    let e : 2 * suc n ≡ suc (suc (2 * n)) = omega arith in
    let d : 2 * suc i ≡ suc (suc (2 * i)) = omega arith in
    rw (e, add-one (2 * i), parts_pairs f (suc i) n, d) refl

-- ---- loops that write parts

-- l is l₀ with the parts of the numbers below i written from `at` on, each of `size` elements; n parts are due
pub record Written {A : Type 0} (f : ℕ → List A) (size at n : ℕ) (l₀ l : List A) (i : ℕ) : Type 0 where
  pub low : i ≤ n
  pub long : length l ≡ length l₀
  pub left : sets l (at + size * i) (parts f i (n - i)) ≡ sets l₀ at (parts f 0 n)

module _ {A : Type 0} (f : ℕ → List A) (size at n : ℕ) (l₀ : List A) where
  pub written_none : Written f size at n l₀ l₀ 0
  written_none = record { low = omega arith; long = refl; left = rw (sub-zero n, mul-zero size, add-zero at) refl }

  pub written_more : {l m : List A} {i : ℕ} → Written f size at n l₀ l i → i < n → length (f i) ≡ size → m ≡ sets l (at + size * i) (f i) → Written f size at n l₀ m (i + 1)
  unfolding parts
  written_more {l} {m} {i} w h e p = record {
    low = omega arith;
    long = ap length p ∙ length-sets l (at + size * i) (f i) ∙ w.long;
    left =
        let next : at + size * (i + 1) ≡ at + size * i + length (f i) = rw (add-one i, mul-suc size i, e) (sym (add_assoc at (size * i) size)) in
        rw (p, next) (sets_append l (at + size * i) (f i) (parts f (i + 1) (n - (i + 1))))
        ∙ ap (sets l (at + size * i)) (sym (over_next (λ k r. f k ++ r) [] i n h)) ∙ w.left;
  }

  pub written_all : {l : List A} {i : ℕ} → Written f size at n l₀ l i → n ≤ i → l ≡ sets l₀ at (parts f 0 n)
  unfolding parts
  written_all {l} {i} w h = sym (ap (sets l (at + size * i)) (over_end (λ k r. f k ++ r) [] i n h)) ∙ w.left

-- its turn by one element, and by two, with indices and values as the code has them
pub written_one : {A : Type 0} (g : ℕ → A) (at n : ℕ) (l₀ : List A) {l : List A} {i j : ℕ} {v : A}
    → Written (λ k. g k ∷ []) 1 at n l₀ l i → i < n → j ≡ at + i → v ≡ g i → Written (λ k. g k ∷ []) 1 at n l₀ (set l j v) (i + 1)
written_one g at n l₀ {l} {i} w h p e =
    let z : at + i ≡ at + 1 * i = omega arith in
    written_more (λ k. g k ∷ []) 1 at n l₀ w h refl (rw (e, p, z) refl)

pub written_two : {A : Type 0} (f g : ℕ → A) (at n : ℕ) (l₀ : List A) {l : List A} {i j k : ℕ} {v u : A}
    → Written (λ k. f k ∷ g k ∷ []) 2 at n l₀ l i → i < n → j ≡ at + 2 * i → k ≡ at + 2 * i + 1 → v ≡ f i → u ≡ g i
    → Written (λ k. f k ∷ g k ∷ []) 2 at n l₀ (set (set l j v) k u) (i + 1)
written_two f g at n l₀ {l} {i} w h p q d e = written_more (λ k. f k ∷ g k ∷ []) 2 at n l₀ w h refl (rw (d, e, p, q, add-one (at + 2 * i)) refl)

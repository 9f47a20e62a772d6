-- Members of a list, lists without repeats, and how many numbers of a range a list holds: as many as it has elements exactly if none comes twice.
-- By induction on the list: a new element counts one more, one that is there already none. Assumes nothing.
use Rattle.std.specs.Prelude.{◌≡◌, refl, Bool, true, false, List, [], ◌∷◌, ◌++◌, ◌⊎◌, ℕ, zero, suc, ◌+◌, ◌≤◌, ◌<◌, length, take, eqb}
use Rattle.std.proofs.Common.{sym, ap, ◌∙◌, true≢false, inl, inr, ⊎_elim, arith, eqb-true, eq-eqb, ne_eqb}
use Rattle.std.proofs.Math.Decide.{ℕ_discrete}
use Rattle.laws.specs.Scan.{count}
use Rattle.laws.specs.Lemmas.Scan.{count_yes, count_no, count_cong}
use Rattle.laws.specs.Lemmas.Truth.{clash, false_if}
use Rattle.laws.specs.Member.{In, has, Distinct}

pub has_in : (l : List ℕ) (x : ℕ) → has l x ≡ true → In x l
unfolding has
has_in [] x h = true≢false (sym h)
has_in (y ∷ l) x h = go (has_in l x) (eqb x y) refl
  where
    go : (has l x ≡ true → In x l) → (t : Bool) → eqb x y ≡ t → (x ≡ y) ⊎ In x l
    go ih true e = inl (eqb-true x y e)
    go ih false e = inr (ih (rw (e, has) at h))

pub in_has : (l : List ℕ) (x : ℕ) → In x l → has l x ≡ true
unfolding has
in_has [] x h = absurd h
in_has (y ∷ l) x (inl e) = rw (eq-eqb x y e, has) refl
in_has (y ∷ l) x (inr h) = go (in_has l x h) (eqb x y) refl
  where
    go : has l x ≡ true → (t : Bool) → eqb x y ≡ t → has (y ∷ l) x ≡ true
    go ih true e = rw (e, has) refl
    go ih false e = rw (e, has) ih

pub out-has : (l : List ℕ) (x : ℕ) → (In x l → ⊥) → has l x ≡ false
out-has l x h = false_if (has l x) (λ e. h (has_in l x e))

pub dec_in : (x : ℕ) (l : List ℕ) → Dec (In x l)
dec_in x l = go (has l x) refl
  where
    go : (t : Bool) → has l x ≡ t → Dec (In x l)
    go true e = yes (has_in l x e)
    go false e = no (λ h. clash (in_has l x h) e)

pub in_append : (a b : List ℕ) (x : ℕ) → In x (a ++ b) → (In x a) ⊎ (In x b)
in_append [] b x h = inr h
in_append (y ∷ a) b x (inl e) = inl (inl e)
in_append (y ∷ a) b x (inr h) = ⊎_elim (λ p. inl (inr p)) (λ q. inr q) (in_append a b x h)

pub in_left : (a b : List ℕ) (x : ℕ) → In x a → In x (a ++ b)
in_left [] b x h = absurd h
in_left (y ∷ a) b x (inl e) = inl e
in_left (y ∷ a) b x (inr h) = inr (in_left a b x h)

pub in_right : (a b : List ℕ) (x : ℕ) → In x b → In x (a ++ b)
in_right [] b x h = h
in_right (y ∷ a) b x h = inr (in_right a b x h)

pub in_take : (n : ℕ) (l : List ℕ) (x : ℕ) → In x (take n l) → In x l
in_take zero l x h = absurd h
in_take (suc n) [] x h = absurd h
in_take (suc n) (y ∷ l) x (inl e) = inl e
in_take (suc n) (y ∷ l) x (inr h) = inr (in_take n l x h)

pub distinct_take : (n : ℕ) (l : List ℕ) → Distinct l → Distinct (take n l)
distinct_take zero l d = tt
distinct_take (suc n) [] d = tt
distinct_take (suc n) (y ∷ l) d = (λ h. d.0 (in_take n l y h), distinct_take n l d.1)

pub distinct_append : (a b : List ℕ) → Distinct a → Distinct b → ((x : ℕ) → In x a → In x b → ⊥) → Distinct (a ++ b)
distinct_append [] b p q h = q
distinct_append (y ∷ a) b p q h =
    (λ m. ⊎_elim (λ k. p.0 k) (λ k. h y (inl refl) k) (in_append a b y m), distinct_append a b p.1 q (λ x k. h x (inr k)))

pub distinct_parts : (a b : List ℕ) → Distinct (a ++ b) → Distinct a × ((x : ℕ) → In x b → In x a → ⊥)
distinct_parts [] b d = (tt, λ x h k. k)
distinct_parts (y ∷ a) b d =
    let r = distinct_parts a b d.1 in
    ((λ h. d.0 (in_left a b y h), r.0), λ x h k. ⊎_elim (λ e. d.0 (in_right a b y (rw e at h))) (λ i. r.1 x h i) k)

count_none : (i n : ℕ) → count (λ k. false) i n ≡ 0
unfolding count
count_none i zero = refl
count_none i (suc n) = count_none (suc i) n

-- one number more
count_also : (f g : ℕ → Bool) (x i n : ℕ) → i ≤ x → x < i + n → f x ≡ false → g x ≡ true → ((k : ℕ) → (k ≡ x → ⊥) → g k ≡ f k) → count g i n ≡ suc (count f i n)
count_also f g x i zero h l e q w = absurd (omega arith)
count_also f g x i (suc n) h l e q w = go (count_also f g x (suc i) n) (ℕ_discrete i x) (f i) refl
  where
    go : (suc i ≤ x → x < suc i + n → f x ≡ false → g x ≡ true → ((k : ℕ) → (k ≡ x → ⊥) → g k ≡ f k) → count g (suc i) n ≡ suc (count f (suc i) n))
        → Dec (i ≡ x) → (c : Bool) → f i ≡ c → count g i (suc n) ≡ suc (count f i (suc n))
    go ih (yes p) c r =
        count_yes g i n (ap g p ∙ q)
        ∙ ap suc (count_cong g f (suc i) n (λ k u v. w k (λ z. omega arith)) ∙ sym (count_no f i n (ap f p ∙ e)))
    go ih (no p) true r = count_yes g i n (w i p ∙ r) ∙ ap suc (ih (omega arith) (omega arith) e q w ∙ sym (count_yes f i n r))
    go ih (no p) false r = count_no g i n (w i p ∙ r) ∙ ih (omega arith) (omega arith) e q w ∙ ap suc (sym (count_no f i n r))

-- a new element counts one more
count-new : (x i n : ℕ) (l : List ℕ) → (i ≤ x) × (x < i + n) → (In x l → ⊥) → count (has (x ∷ l)) i n ≡ suc (count (has l) i n)
unfolding has
count-new x i n l here h =
    count_also (has l) (has (x ∷ l)) x i n here.0 here.1 (out-has l x h) (in_has (x ∷ l) x (inl refl)) (λ k ne. rw (ne_eqb k x ne, has) refl)

pub count-has : (i n : ℕ) (l : List ℕ) → Distinct l → ((x : ℕ) → In x l → (i ≤ x) × (x < i + n)) → count (has l) i n ≡ length l
unfolding has
count-has i n [] d r = count_none i n
count-has i n (x ∷ l) d r = count-new x i n l (r x (inl refl)) d.0 ∙ ap suc (count-has i n l d.1 (λ y h. r y (inr h)))

-- an element that is there already counts no more
count_again : (x i n : ℕ) (l : List ℕ) → In x l → count (has (x ∷ l)) i n ≡ count (has l) i n
unfolding has
count_again x i n l h = count_cong (has (x ∷ l)) (has l) i n (λ k p q. go k (ℕ_discrete k x))
  where
    go : (k : ℕ) → Dec (k ≡ x) → has (x ∷ l) k ≡ has l k
    go k (yes e) = in_has (x ∷ l) k (inl e) ∙ sym (ap (has l) e ∙ in_has l x h)
    go k (no ne) = rw (ne_eqb k x ne, has) refl

-- a list in a range has at least as many elements as it has numbers of the range
count_most : (i n : ℕ) (l : List ℕ) → ((x : ℕ) → In x l → (i ≤ x) × (x < i + n)) → count (has l) i n ≤ length l
unfolding has
count_most i n [] r = omega (arith, count_none i n)
count_most i n (x ∷ l) r = go (dec_in x l) (count_most i n l (λ y h. r y (inr h)))
  where
    go : Dec (In x l) → count (has l) i n ≤ length l → count (has (x ∷ l)) i n ≤ length (x ∷ l)
    go (yes h) m = omega (arith, count_again x i n l h)
    go (no h) m = omega (arith, count-new x i n l (r x (inl refl)) h)

-- as many exactly if none comes twice
pub count_distinct : (i n : ℕ) (l : List ℕ) → ((x : ℕ) → In x l → (i ≤ x) × (x < i + n)) → count (has l) i n ≡ length l → Distinct l
count_distinct i n [] r e = tt
count_distinct i n (x ∷ l) r e = go (dec_in x l) (count_distinct i n l (λ y h. r y (inr h)))
  where
    go : Dec (In x l) → (count (has l) i n ≡ length l → Distinct l) → Distinct (x ∷ l)
    go (yes h) d = absurd (omega (arith, count_again x i n l h, count_most i n l (λ y h. r y (inr h)), e))
    go (no h) d = (h, d (omega (arith, count-new x i n l (r x (inl refl)) h, e)))

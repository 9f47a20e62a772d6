-- Searches, counts, lists, sums and tests over a range of numbers, with the laws of a loop that makes them: its end, its stop, its next turn.
-- All are one fold, `over`, so each law is one citation of the fold's. Assumes nothing.
use Rattle.std.specs.Prelude.{◌≡◌, Bool, not, ◌⊎◌, length, Some, None}
use Rattle.std.proofs.Math.Path.{refl}
use Rattle.std.proofs.Common.{sym, ap, ◌∙◌, true≢false, inl, inr, ⊎_elim, zero-add, add-suc, suc-add}
use Rattle.std.proofs.Math.Bool.{true, false}
use mathlib.Core.List.{List, [], ◌∷◌}
use Prim.Native.Nat.{ℕ, zero, suc, ◌+◌, ◌-◌, ◌≤◌, ◌<◌}
use Rattle.std.proofs.Math.Decide.{ℕ_discrete, dec_lt}
use Rattle.std.proofs.Math.Nat.{add-zero}
use Rattle.std.proofs.Math.Numerals.{add-one}
use native.Mathlib.Omega.{arith}
use Rattle.laws.specs.Truth.{pick, both, within}
use Rattle.laws.specs.Lemmas.Truth.{clash, within_in, within_below, within_above}
use Rattle.laws.specs.Member.{In, Distinct}
use Rattle.laws.specs.Scan.{over, lowest, count, those, all, any, total}

-- ---- the fold

module _ {A : Type 0} (step : ℕ → A → A) (end : A) where
  pub over_end : (i n : ℕ) → n ≤ i → over step end i (n - i) ≡ end
  unfolding over
  over_end i n h = let e : n - i ≡ 0 = omega arith in rw e

  pub over_next : (i n : ℕ) → i < n → over step end i (n - i) ≡ step i (over step end (i + 1) (n - (i + 1)))
  unfolding over
  over_next i n h = let e : n - i ≡ suc (n - (i + 1)) = omega arith in rw (e, add-one i)

pub over_cong : {A : Type 0} (f g : ℕ → A → A) (end : A) (i n : ℕ) → ((k : ℕ) → i ≤ k → k < i + n → (r : A) → f k r ≡ g k r)
    → over f end i n ≡ over g end i n
unfolding over
over_cong f g end i zero h = refl
over_cong f g end i (suc n) h =
    ap (f i) (over_cong f g end (suc i) n (λ k p q. h k (omega arith) (omega arith))) ∙ h i (omega arith) (omega arith) (over g end (suc i) n)

-- ---- a search

module _ (f : ℕ → Bool) (i n : ℕ) where
  pub lowest_end : n ≤ i → lowest f i (n - i) ≡ None
  unfolding lowest
  lowest_end h = over_end (λ k rest. pick (f k) (Some k) rest) None i n h

  pub lowest_stop : i < n → f i ≡ true → lowest f i (n - i) ≡ Some i
  unfolding lowest
  lowest_stop h e = over_next (λ k rest. pick (f k) (Some k) rest) None i n h ∙ rw e refl

  pub lowest-on : i < n → f i ≡ false → lowest f i (n - i) ≡ lowest f (i + 1) (n - (i + 1))
  unfolding lowest
  lowest-on h e = over_next (λ k rest. pick (f k) (Some k) rest) None i n h ∙ rw e refl

-- tests that agree on the range are found at one place
pub lowest_cong : (f g : ℕ → Bool) (i n : ℕ) → ((k : ℕ) → i ≤ k → k < i + n → f k ≡ g k) → lowest f i n ≡ lowest g i n
unfolding lowest
lowest_cong f g i n h = over_cong _ _ None i n (λ k p q r. ap (λ (t : Bool). pick t (Some k) r) (h k p q))

-- Nowhere: no number in the range passes
pub nowhere→ : (f : ℕ → Bool) (i n : ℕ) → lowest f i n ≡ None → (k : ℕ) → i ≤ k → k < i + n → f k ≡ false
unfolding lowest
nowhere→ f i zero e k h l = absurd (omega arith)
nowhere→ f i (suc n) e k h l = go (nowhere→ f (suc i) n) (f i) refl (ℕ_discrete k i)
  where
    go : (lowest f (suc i) n ≡ None → (j : ℕ) → suc i ≤ j → j < suc i + n → f j ≡ false) → (b : Bool) → f i ≡ b → Dec (k ≡ i) → f k ≡ false
    go ih true p d = let z : Some i ≡ None = rw p at e in let o : ◌≡◌ {A = ℕ} 0 1 = cc in absurd (omega arith)
    go ih false p (yes q) = ap f q ∙ p
    go ih false p (no q) = ih (rw p at e) k (omega arith) (omega arith)

pub →nowhere : (f : ℕ → Bool) (i n : ℕ) → ((k : ℕ) → i ≤ k → k < i + n → f k ≡ false) → lowest f i n ≡ None
unfolding lowest
→nowhere f i zero h = refl
→nowhere f i (suc n) h = rw (h i (omega arith) (omega arith)) (→nowhere f (suc i) n (λ k p q. h k (omega arith) (omega arith)))

-- a place: it lies in the range and passes
pub at→ : (f : ℕ → Bool) (i n k : ℕ) → lowest f i n ≡ Some k → (i ≤ k) × (k < i + n) × (f k ≡ true)
unfolding lowest
at→ f i zero k e = let o : ◌≡◌ {A = ℕ} 0 1 = cc in absurd (omega arith)
at→ f i (suc n) k e = go (at→ f (suc i) n k) (f i) refl
  where
    go : (lowest f (suc i) n ≡ Some k → (suc i ≤ k) × (k < suc i + n) × (f k ≡ true)) → (b : Bool) → f i ≡ b → (i ≤ k) × (k < i + suc n) × (f k ≡ true)
    go ih true p =
        let z : Some i ≡ Some k = rw p at e in
        let o : i ≡ k = cc in
        (omega arith, omega arith, ap f (sym o) ∙ p)
    go ih false p = let r = ih (rw p at e) in (omega (arith, r.0), omega (arith, r.1), r.2)

-- no number below the lowest passes
pub lowest_least : (f : ℕ → Bool) (i n k : ℕ) → lowest f i n ≡ Some k → (j : ℕ) → i ≤ j → j < i + n → f j ≡ true → k ≤ j
unfolding lowest
lowest_least f i zero k e j h l t = absurd (omega arith)
lowest_least f i (suc n) k e j h l t = go (lowest_least f (suc i) n k) (f i) refl (dec_lt i j)
  where
    go : (lowest f (suc i) n ≡ Some k → (m : ℕ) → suc i ≤ m → m < suc i + n → f m ≡ true → k ≤ m) → (b : Bool) → f i ≡ b → Dec (i < j) → k ≤ j
    go ih true p d =
        let z : Some i ≡ Some k = rw p at e in
        let o : i ≡ k = cc in
        omega arith
    go ih false p (yes q) = ih (rw p at e) j (omega arith) (omega arith) t
    go ih false p (no q) = let o : i ≡ j = omega arith in absurd (clash (ap f o ∙ t) p)

-- a number that passes where none below it does is the lowest
pub lowest_is : (f : ℕ → Bool) (i n k : ℕ) → i ≤ k → k < i + n → f k ≡ true → ((j : ℕ) → i ≤ j → j < k → f j ≡ false) → lowest f i n ≡ Some k
unfolding lowest
lowest_is f i zero k h l e below = absurd (omega arith)
lowest_is f i (suc n) k h l e below = go (lowest_is f (suc i) n k) (ℕ_discrete i k)
  where
    go : (suc i ≤ k → k < suc i + n → f k ≡ true → ((j : ℕ) → suc i ≤ j → j < k → f j ≡ false) → lowest f (suc i) n ≡ Some k) → Dec (i ≡ k) → lowest f i (suc n) ≡ Some k
    go ih (yes q) = rw (q, e) refl
    go ih (no q) = rw (below i (omega arith) (omega arith)) (ih (omega arith) (omega arith) e (λ j a b. below j (omega arith) b))

-- ---- a count

module _ (f : ℕ → Bool) (i n : ℕ) where
  pub count_end : n ≤ i → count f i (n - i) ≡ 0
  unfolding count
  count_end h = over_end (λ k rest. pick (f k) (suc rest) rest) 0 i n h

  pub count_stop : i < n → f i ≡ true → count f i (n - i) ≡ suc (count f (i + 1) (n - (i + 1)))
  unfolding count
  count_stop h e = over_next (λ k rest. pick (f k) (suc rest) rest) 0 i n h ∙ rw e refl

  pub count-on : i < n → f i ≡ false → count f i (n - i) ≡ count f (i + 1) (n - (i + 1))
  unfolding count
  count-on h e = over_next (λ k rest. pick (f k) (suc rest) rest) 0 i n h ∙ rw e refl

  pub count_yes : f i ≡ true → count f i (suc n) ≡ suc (count f (suc i) n)
  unfolding count
  count_yes e = rw e refl

  pub count_no : f i ≡ false → count f i (suc n) ≡ count f (suc i) n
  unfolding count
  count_no e = rw e refl

pub count_cong : (f g : ℕ → Bool) (i n : ℕ) → ((k : ℕ) → i ≤ k → k < i + n → f k ≡ g k) → count f i n ≡ count g i n
unfolding count
count_cong f g i n h = over_cong _ _ 0 i n (λ k p q r. ap (λ (t : Bool). pick t (suc r) r) (h k p q))

-- those that pass and those that don't make the range
pub count_split : (f : ℕ → Bool) (i n : ℕ) → count f i n + count (λ k. not (f k)) i n ≡ n
unfolding count
count_split f i zero = refl
count_split f i (suc n) = go (count_split f (suc i) n) (f i) refl
  where
    go : count f (suc i) n + count (λ k. not (f k)) (suc i) n ≡ n → (b : Bool) → f i ≡ b → count f i (suc n) + count (λ k. not (f k)) i (suc n) ≡ suc n
    go ih true p = omega (arith, count_yes f i n p, count_no (λ k. not (f k)) i n (rw p refl))
    go ih false p = omega (arith, count_no f i n p, count_yes (λ k. not (f k)) i n (rw p refl))

-- from a number that isn't below low on, those up to high lie between the two
count-up : (low high i n : ℕ) → low ≤ i → high < i + n → count (within low high) i n ≡ suc high - i
unfolding count
count-up low high i zero h k = omega arith
count-up low high i (suc n) h k = go (count-up low high (suc i) n (omega arith) (omega arith)) (dec_lt high i)
  where
    go : count (within low high) (suc i) n ≡ suc high - suc i → Dec (high < i) → count (within low high) i (suc n) ≡ suc high - i
    go ih (yes d) = omega (arith, ih, count_no (within low high) i n (within_above low high i d))
    go ih (no d) = omega (arith, ih, count_yes (within low high) i n (within_in low high i h (omega arith)))

-- a range that holds low and high has all the numbers between the two
pub count-within : (low high i n : ℕ) → i ≤ low → low ≤ high → high < i + n → count (within low high) i n ≡ high - low + 1
unfolding count
count-within low high i zero h k p = absurd (omega arith)
count-within low high i (suc n) h k p = go (count-within low high (suc i) n) (dec_lt i low)
  where
    go : (suc i ≤ low → low ≤ high → high < suc i + n → count (within low high) (suc i) n ≡ high - low + 1) → Dec (i < low) → count (within low high) i (suc n) ≡ high - low + 1
    go ih (yes d) = omega (arith, ih (omega arith) k (omega arith), count_no (within low high) i n (within_below low high i d))
    go ih (no d) = omega (arith, count-up low high i (suc n) (omega arith) p)

-- a test that another implies counts at least as much, and where both count alike they agree
count_implied : (f g : ℕ → Bool) (i n : ℕ) → ((k : ℕ) → i ≤ k → k < i + n → f k ≡ true → g k ≡ true) → count f i n ≤ count g i n
unfolding count
count_implied f g i zero w = omega arith
count_implied f g i (suc n) w = go (count_implied f g (suc i) n (λ k h l. w k (omega arith) (omega arith))) (f i) (g i) refl refl
  where
    go : count f (suc i) n ≤ count g (suc i) n → (t u : Bool) → f i ≡ t → g i ≡ u → count f i (suc n) ≤ count g i (suc n)
    go ih true true p q = omega (arith, count_yes f i n p, count_yes g i n q)
    go ih true false p q = absurd (clash (w i (omega arith) (omega arith) p) q)
    go ih false true p q = omega (arith, count_no f i n p, count_yes g i n q)
    go ih false false p q = omega (arith, count_no f i n p, count_no g i n q)

pub count_agree : (f g : ℕ → Bool) (i n : ℕ) → ((k : ℕ) → i ≤ k → k < i + n → f k ≡ true → g k ≡ true) → count f i n ≡ count g i n
    → (k : ℕ) → i ≤ k → k < i + n → g k ≡ true → f k ≡ true
unfolding count
count_agree f g i zero w e k h l t = absurd (omega arith)
count_agree f g i (suc n) w e k h l t =
    go (count_agree f g (suc i) n (λ j p q. w j (omega arith) (omega arith))) (count_implied f g (suc i) n (λ j p q. w j (omega arith) (omega arith))) (f i) (g i) refl refl (dec_lt i k)
  where
    go : (count f (suc i) n ≡ count g (suc i) n → (j : ℕ) → suc i ≤ j → j < suc i + n → g j ≡ true → f j ≡ true) → count f (suc i) n ≤ count g (suc i) n
        → (a b : Bool) → f i ≡ a → g i ≡ b → Dec (i < k) → f k ≡ true
    go ih le true true p q (yes d) = ih (omega (arith, e, count_yes f i n p, count_yes g i n q)) k (omega arith) (omega arith) t
    go ih le true true p q (no d) = let z : k ≡ i = omega arith in ap f z ∙ p
    go ih le true false p q d = absurd (clash (w i (omega arith) (omega arith) p) q)
    go ih le false true p q d = absurd (omega (arith, e, count_no f i n p, count_yes g i n q))
    go ih le false false p q (yes d) = ih (omega (arith, e, count_no f i n p, count_no g i n q)) k (omega arith) (omega arith) t
    go ih le false false p q (no d) = let z : k ≡ i = omega arith in absurd (clash t (ap g z ∙ q))

-- none passes
pub count_never : (f : ℕ → Bool) (i n : ℕ) → ((k : ℕ) → i ≤ k → k < i + n → f k ≡ false) → count f i n ≡ 0
count_never f i zero h = unfold count in refl
count_never f i (suc n) h = count_no f i n (h i (omega arith) (omega arith)) ∙ count_never f (suc i) n (λ k p q. h k (omega arith) (omega arith))

-- a range in two parts
pub count-append : (f : ℕ → Bool) (i a n : ℕ) → count f i (a + n) ≡ count f i a + count f (i + a) n
count-append f i zero n = unfold count in rw (zero-add n, add-zero i) (omega arith)
count-append f i (suc a) n = go (f i) refl (count-append f (suc i) a n)
  where
    go : (t : Bool) → f i ≡ t → count f (suc i) (a + n) ≡ count f (suc i) a + count f (suc i + a) n → count f i (suc a + n) ≡ count f i (suc a) + count f (i + suc a) n
    go true e ih = rw (suc-add a n, add-suc i a, ← suc-add i a) (omega (arith, ih, count_yes f i (a + n) e, count_yes f i a e))
    go false e ih = rw (suc-add a n, add-suc i a, ← suc-add i a) (omega (arith, ih, count_no f i (a + n) e, count_no f i a e))

-- ---- those that pass, as a list

module _ (f : ℕ → Bool) (i n : ℕ) where
  pub those_end : n ≤ i → those f i (n - i) ≡ []
  unfolding those
  those_end h = over_end (λ k rest. pick (f k) (k ∷ rest) rest) [] i n h

  pub those_stop : i < n → f i ≡ true → those f i (n - i) ≡ i ∷ those f (i + 1) (n - (i + 1))
  unfolding those
  those_stop h e = over_next (λ k rest. pick (f k) (k ∷ rest) rest) [] i n h ∙ rw e refl

  pub those-on : i < n → f i ≡ false → those f i (n - i) ≡ those f (i + 1) (n - (i + 1))
  unfolding those
  those-on h e = over_next (λ k rest. pick (f k) (k ∷ rest) rest) [] i n h ∙ rw e refl

pub those_cong : (f g : ℕ → Bool) (i n : ℕ) → ((k : ℕ) → i ≤ k → k < i + n → f k ≡ g k) → those f i n ≡ those g i n
unfolding those
those_cong f g i n h = over_cong _ _ [] i n (λ k p q r. ap (λ (t : Bool). pick t (k ∷ r) r) (h k p q))

in_pick : (t : Bool) (b x : ℕ) (bs : List ℕ) → In x (pick t (b ∷ bs) bs) → ((t ≡ true) × (x ≡ b)) ⊎ In x bs
in_pick true b x bs (inl e) = inl (refl, e)
in_pick true b x bs (inr h) = inr h
in_pick false b x bs h = inr h

pub in_those : (f : ℕ → Bool) (i n x : ℕ) → In x (those f i n) → (i ≤ x) × (x < i + n) × (f x ≡ true)
unfolding those
in_those f i zero x h = absurd h
in_those f i (suc n) x h =
    ⊎_elim (λ p. (omega (arith, p.1), omega (arith, p.1), ap f p.1 ∙ p.0))
    (λ q. let r = in_those f (suc i) n x q in (omega (arith, r.0), omega (arith, r.1), r.2)) (in_pick (f i) i x (those f (suc i) n) h)

pick-here : (t : Bool) (x : ℕ) (bs : List ℕ) → t ≡ true → In x (pick t (x ∷ bs) bs)
pick-here true x bs e = inl refl
pick-here false x bs e = absurd (clash e refl)

pick_later : (t : Bool) (b x : ℕ) (bs : List ℕ) → In x bs → In x (pick t (b ∷ bs) bs)
pick_later true b x bs h = inr h
pick_later false b x bs h = h

pub those_in : (f : ℕ → Bool) (i n x : ℕ) → i ≤ x → x < i + n → f x ≡ true → In x (those f i n)
unfolding those
those_in f i zero x h l e = absurd (omega arith)
those_in f i (suc n) x h l e = go (ℕ_discrete x i) (those_in f (suc i) n x)
  where
    go : Dec (x ≡ i) → (suc i ≤ x → x < suc i + n → f x ≡ true → In x (those f (suc i) n)) → In x (those f i (suc n))
    go (yes p) ih = rw p (pick-here (f i) i (those f (suc i) n) (ap f (sym p) ∙ e))
    go (no p) ih = pick_later (f i) i x (those f (suc i) n) (ih (omega arith) (omega arith) e)

pub those_none : (f : ℕ → Bool) (i n : ℕ) → ((k : ℕ) → i ≤ k → k < i + n → f k ≡ false) → those f i n ≡ []
unfolding those
those_none f i zero h = refl
those_none f i (suc n) h = rw (h i (omega arith) (omega arith)) (those_none f (suc i) n (λ k p q. h k (omega arith) (omega arith)))

-- those of a range that ends in numbers that don't pass
pub those_short : (f : ℕ → Bool) (i a n : ℕ) → ((k : ℕ) → i + a ≤ k → k < i + (a + n) → f k ≡ false) → those f i (a + n) ≡ those f i a
unfolding those
those_short f i zero n h = rw (zero-add n) (those_none f i n (λ k p q. h k (omega arith) (omega arith)))
those_short f i (suc a) n h = rw (suc-add a n) (ap (λ (bs : List ℕ). pick (f i) (i ∷ bs) bs) (those_short f (suc i) a n (λ k p q. h k (omega arith) (omega arith))))

distinct_pick : (t : Bool) (b : ℕ) (bs : List ℕ) → (In b bs → ⊥) → Distinct bs → Distinct (pick t (b ∷ bs) bs)
distinct_pick true b bs n d = (n, d)
distinct_pick false b bs n d = d

pub those_distinct : (f : ℕ → Bool) (i n : ℕ) → Distinct (those f i n)
unfolding those
those_distinct f i zero = tt
those_distinct f i (suc n) =
    distinct_pick (f i) i (those f (suc i) n) (λ h. let r = in_those f (suc i) n i h in omega (arith, r.0)) (those_distinct f (suc i) n)

pub those-count : (f : ℕ → Bool) (i n : ℕ) → length (those f i n) ≡ count f i n
unfolding those
those-count f i zero = unfold count in refl
those-count f i (suc n) = go (those-count f (suc i) n) (f i) refl
  where
    go : length (those f (suc i) n) ≡ count f (suc i) n → (t : Bool) → f i ≡ t → length (those f i (suc n)) ≡ count f i (suc n)
    go ih true e = rw e (ap suc ih) ∙ sym (count_yes f i n e)
    go ih false e = rw e ih ∙ sym (count_no f i n e)

-- ---- tests of all and of any

module _ (f : ℕ → Bool) (i n : ℕ) where
  pub all_end : n ≤ i → all f i (n - i) ≡ true
  unfolding all
  all_end h = over_end (λ k rest. both (f k) rest) true i n h

  pub all_stop : i < n → f i ≡ false → all f i (n - i) ≡ false
  unfolding all
  all_stop h e = over_next (λ k rest. both (f k) rest) true i n h ∙ rw e refl

  pub all-on : i < n → f i ≡ true → all f i (n - i) ≡ all f (i + 1) (n - (i + 1))
  unfolding all
  all-on h e = over_next (λ k rest. both (f k) rest) true i n h ∙ rw e refl

  pub any_end : n ≤ i → any f i (n - i) ≡ false
  unfolding any
  any_end h = over_end (λ k rest. pick (f k) true rest) false i n h

  pub any_stop : i < n → f i ≡ true → any f i (n - i) ≡ true
  unfolding any
  any_stop h e = over_next (λ k rest. pick (f k) true rest) false i n h ∙ rw e refl

  pub any-on : i < n → f i ≡ false → any f i (n - i) ≡ any f (i + 1) (n - (i + 1))
  unfolding any
  any-on h e = over_next (λ k rest. pick (f k) true rest) false i n h ∙ rw e refl

pub all_cong : (f g : ℕ → Bool) (i n : ℕ) → ((k : ℕ) → i ≤ k → k < i + n → f k ≡ g k) → all f i n ≡ all g i n
unfolding all
all_cong f g i n h = over_cong _ _ true i n (λ k p q r. ap (λ (t : Bool). both t r) (h k p q))

pub any_cong : (f g : ℕ → Bool) (i n : ℕ) → ((k : ℕ) → i ≤ k → k < i + n → f k ≡ g k) → any f i n ≡ any g i n
unfolding any
any_cong f g i n h = over_cong _ _ false i n (λ k p q r. ap (λ (t : Bool). pick t true r) (h k p q))

-- all pass: each does
pub all→ : (f : ℕ → Bool) (i n : ℕ) → all f i n ≡ true → (k : ℕ) → i ≤ k → k < i + n → f k ≡ true
unfolding all
all→ f i zero e k h l = absurd (omega arith)
all→ f i (suc n) e k h l = go (all→ f (suc i) n) (f i) refl (ℕ_discrete k i)
  where
    go : (all f (suc i) n ≡ true → (j : ℕ) → suc i ≤ j → j < suc i + n → f j ≡ true) → (b : Bool) → f i ≡ b → Dec (k ≡ i) → f k ≡ true
    go ih false p d = absurd (true≢false (sym (rw p at e)))
    go ih true p (yes q) = ap f q ∙ p
    go ih true p (no q) = ih (rw p at e) k (omega arith) (omega arith)

pub →all : (f : ℕ → Bool) (i n : ℕ) → ((k : ℕ) → i ≤ k → k < i + n → f k ≡ true) → all f i n ≡ true
unfolding all
→all f i zero h = refl
→all f i (suc n) h = rw (h i (omega arith) (omega arith)) (→all f (suc i) n (λ k p q. h k (omega arith) (omega arith)))

-- none passes
pub none→ : (f : ℕ → Bool) (i n : ℕ) → any f i n ≡ false → (k : ℕ) → i ≤ k → k < i + n → f k ≡ false
unfolding any
none→ f i zero e k h l = absurd (omega arith)
none→ f i (suc n) e k h l = go (none→ f (suc i) n) (f i) refl (ℕ_discrete k i)
  where
    go : (any f (suc i) n ≡ false → (j : ℕ) → suc i ≤ j → j < suc i + n → f j ≡ false) → (b : Bool) → f i ≡ b → Dec (k ≡ i) → f k ≡ false
    go ih true p d = absurd (true≢false (rw p at e))
    go ih false p (yes q) = ap f q ∙ p
    go ih false p (no q) = ih (rw p at e) k (omega arith) (omega arith)

pub →none : (f : ℕ → Bool) (i n : ℕ) → ((k : ℕ) → i ≤ k → k < i + n → f k ≡ false) → any f i n ≡ false
unfolding any
→none f i zero h = refl
→none f i (suc n) h = rw (h i (omega arith) (omega arith)) (→none f (suc i) n (λ k p q. h k (omega arith) (omega arith)))

-- ---- a sum

pub total_cong : (f g : ℕ → ℕ) (i n : ℕ) → ((k : ℕ) → i ≤ k → k < i + n → f k ≡ g k) → total f i n ≡ total g i n
unfolding total
total_cong f g i n h = over_cong _ _ 0 i n (λ k p q r. ap (λ (x : ℕ). x + r) (h k p q))

-- one number more at the end
pub total_snoc : (f : ℕ → ℕ) (i n : ℕ) → total f i (suc n) ≡ total f i n + f (i + n)
unfolding total
total_snoc f i zero = rw (add-zero i) (omega arith)
total_snoc f i (suc n) = rw (add-suc i n, ← suc-add i n) (omega (arith, total_snoc f (suc i) n))

-- each of the numbers is at most the sum
pub total-has : (f : ℕ → ℕ) (i n k : ℕ) → i ≤ k → k < i + n → f k ≤ total f i n
unfolding total
total-has f i zero k h p = absurd (omega arith)
total-has f i (suc n) k h p = go (dec_lt i k) (total-has f (suc i) n k)
  where
    go : Dec (i < k) → (suc i ≤ k → k < suc i + n → f k ≤ total f (suc i) n) → f k ≤ total f i (suc n)
    go (yes q) ih = omega (arith, ih (omega arith) (omega arith))
    go (no q) ih = let e : k ≡ i = omega arith in rw e (omega arith)

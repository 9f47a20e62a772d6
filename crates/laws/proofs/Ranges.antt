-- The library's searches over a range in this repository's words: what `find`, `all` and `any` over `a..b` answer, whose closure is the test f.
-- By the laws of `lowest` and by induction on the range's length. Assumes nothing.
use Rattle.std.specs.Prelude.{◌≡◌, refl, Bool, true, false, Some, None, Option, List, [], ◌∷◌, ℕ, zero, suc, ◌+◌, ◌-◌, ◌≤◌, ◌<◌, ◌||◌}
use Rattle.std.proofs.Common.{sym, ap, ◌∙◌, arith, add-one}
use Rattle.std.proofs.Math.Decide.{dec_lt}
use Rattle.std.proofs.iter.Yields.{nat_range_steps}
use Rattle.std.proofs.lemmas.Iterator.{first_from_Range, YieldsList-from_range}
use Rattle.std.proofs.lemmas.Iterator.Search.{all_from_yields_List, any_from_yields_List}
use Rattle.std.specs.Fn.{Called, CalledAt}
use Rattle.std.specs.Iterator.{ChecksAll, ChecksAny, FindsItem}
use Rattle.std.specs.List.{list_all, list_any, range_with_len}
use Rattle.std.specs.Option.{MatchOption}
use denote.Param.Members.{Mut}
use denote.Ref.{Bor}
use Rattle.std.specs.declared.ops.Range.{Range}
use Rattle.laws.specs.Lemmas.Scan.{nowhere→, →nowhere, at→, lowest_least}
use Rattle.laws.specs.Lemmas.Truth.{clash}
use Rattle.laws.specs.Scan.{Lowest, lowest, all, any}
use Rattle.laws.specs.Truth.{both, pick}
use Rattle.laws.proofs.Tests.{and_both}

-- a number that passes, and none below it does, is the lowest
lowest_is : (f : ℕ → Bool) (a n i : ℕ) → a ≤ i → i < a + n → f i ≡ true → ((k : ℕ) → a ≤ k → k < i → f k ≡ false) → Some i ≡ lowest f a n
lowest_is f a n i p q t below = go (lowest f a n) refl
  where
    go : (w : Lowest) → lowest f a n ≡ w → Some i ≡ lowest f a n
    go None e = absurd (clash t (nowhere→ f a n e i p q))
    go (Some j) e = let w = at→ f a n j e in last j e w (dec_lt j i)
      where
        last : (j : ℕ) → lowest f a n ≡ Some j → (a ≤ j) × (j < a + n) × (f j ≡ true) → Dec (j < i) → Some i ≡ lowest f a n
        last j e w (yes h) = absurd (clash w.2 (below j w.0 h))
        last j e w (no h) = let z : i ≡ j = omega (arith, lowest_least f a n j e i p q t) in ap Some z ∙ sym e

found_lowest : (f : ℕ → Bool) (a b : ℕ) (r : Option ℕ) → MatchOption r ((k : ℕ) → a ≤ k → k < b → f k ≡ false) (λ i. (a ≤ i) × (i < b) × (f i ≡ true) × ((k : ℕ) → a ≤ k → k < i → f k ≡ false)) → r ≡ lowest f a (b - a)
found_lowest f a b None h = sym (→nowhere f a (b - a) (λ k p q. h k p (omega arith)))
found_lowest f a b (Some i) h = lowest_is f a (b - a) i h.0 (omega arith) h.2 h.3

-- `(a..b).find(..)`
pub find_told : {F : Type 0} {g : Mut F (Bor ℕ × Unit {0}) Bool} {s : Range ℕ} (u : Range ℕ) {e : F} {r : Option ℕ} (f : ℕ → Bool) (a b n : ℕ) → FindsItem nat_range_steps g s e r u → s ≡ record { start = a; end = b } → b - a ≡ n
    → ((x : ℕ) (t : Bool) (q : F) → CalledAt g e x t q → (q ≡ e) × (t ≡ f x)) → r ≡ lowest f a n
find_told {s = s} u {e = e} {r = r} f a b n ran made size says =
    rw (sym size)
    (found_lowest f a b r
    (rw made at (first_from_Range s u e r (λ x. f x ≡ true) (λ x. f x ≡ false) ran (λ x q k. sym (says x true q k).1) (λ x q k. let w = says x false q k in (w.0, sym w.1)))))

all_range : (f : ℕ → Bool) (a n : ℕ) → list_all f (range_with_len a n) ≡ all f a n
unfolding all
all_range f a zero = refl
all_range f a (suc n) = rw (add-one a, all_range f (suc a) n, and_both (f a) (all f (suc a) n)) refl

-- `(a..b).all(..)`
pub all_passed : {F : Type 0} {g : Mut F (ℕ × Unit {0}) Bool} {s u : Range ℕ} {e : F} {r : Bool} (f : ℕ → Bool) (a b n : ℕ) → ChecksAll nat_range_steps g s e r u → s ≡ record { start = a; end = b } → b - a ≡ n
    → ((x : ℕ) (t : Bool) (q : F) → Called g e (x, tt) t q → (q ≡ e) × (t ≡ f x)) → r ≡ all f a n
all_passed {u = u} {e = e} {r = r} f a b n ran made size says = all_from_yields_List f u e r ran (YieldsList-from_range a b n made size) says ∙ all_range f a n

or_pick : (a b : Bool) → (a || b) ≡ pick a true b
or_pick true b = refl
or_pick false b = refl

any_range : (f : ℕ → Bool) (a n : ℕ) → list_any f (range_with_len a n) ≡ any f a n
unfolding any
any_range f a zero = refl
any_range f a (suc n) = rw (add-one a, any_range f (suc a) n, or_pick (f a) (any f (suc a) n)) refl

-- `(a..b).any(..)`
pub any_passed : {F : Type 0} {g : Mut F (ℕ × Unit {0}) Bool} {s u : Range ℕ} {e : F} {r : Bool} (f : ℕ → Bool) (a b n : ℕ) → ChecksAny nat_range_steps g s e r u → s ≡ record { start = a; end = b } → b - a ≡ n
    → ((x : ℕ) (t : Bool) (q : F) → Called g e (x, tt) t q → (q ≡ e) × (t ≡ f x)) → r ≡ any f a n
any_passed {u = u} {e = e} {r = r} f a b n ran made size says = any_from_yields_List f u e r ran (YieldsList-from_range a b n made size) says ∙ any_range f a n

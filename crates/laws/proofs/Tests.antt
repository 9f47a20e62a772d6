-- The library's tests in this repository's words: what `contains` of a range of numbers and `all` over a slice of them answer.
-- By the order of the numbers, and by induction on the list. Assumes nothing.
use Rattle.std.specs.Prelude.{◌≡◌, refl, Bool, true, false, Some, List, [], ◌∷◌, ℕ, ◌&&◌, leb, ltb}
use Rattle.std.proofs.lemmas.Bool.Decides.{nat_tests}
use Rattle.std.proofs.Common.{◌∙◌, arith, Iter}
use Rattle.std.proofs.iter.Yields.{fronts}
use Rattle.std.proofs.lemmas.Iterator.{YieldsList-from_slice}
use Rattle.std.proofs.lemmas.Iterator.Search.{all_from_yields_List}
use Rattle.std.specs.Fn.{Called}
use Rattle.std.specs.Iterator.{ChecksAll}
use Rattle.std.specs.List.{list_all}
use Rattle.std.specs.Slice.Iter.{iter_rest}
use denote.Param.Members.{Mut}
use denote.Ref.{Bor}
use Rattle.std.specs.Ordering.{partial_le, partial_lt, nat_cmp}
use Rattle.laws.specs.Lists.{all_of}
use Rattle.laws.specs.Truth.{both, within}

pub and_both : (a b : Bool) → (a && b) ≡ both a b
and_both true b = refl
and_both false b = refl

le_told : (x y : ℕ) → partial_le (λ a b. Some (nat_cmp a b)) x y ≡ leb x y
le_told x y = grind (arith, nat_tests)

lt_told : (x y : ℕ) → partial_lt (λ a b. Some (nat_cmp a b)) x y ≡ ltb x y
lt_told x y = grind (arith, nat_tests)

-- `(low..=high).contains(&v)`
pub within_told : (low high v : ℕ) → (partial_le (λ a b. Some (nat_cmp a b)) low v && partial_le (λ a b. Some (nat_cmp a b)) v high) ≡ within low high v
within_told low high v = rw (le_told low v, le_told v high, and_both (leb low v) (leb v high)) refl

-- `(low..end).contains(&v)`
pub below_told : (low end v : ℕ) → (partial_le (λ a b. Some (nat_cmp a b)) low v && partial_lt (λ a b. Some (nat_cmp a b)) v end) ≡ both (leb low v) (ltb v end)
below_told low end v = rw (le_told low v, lt_told v end, and_both (leb low v) (ltb v end)) refl

all_listed : (f : ℕ → Bool) (l : List ℕ) → list_all f l ≡ all_of f l
unfolding all_of
all_listed f [] = refl
all_listed f (x ∷ l) = rw (all_listed f l, and_both (f x) (all_of f l)) refl

-- `s.iter().all(..)`, where the closure is the test f
pub all_told : {F : Type 0} {g : Mut F (Bor ℕ × Unit {0}) Bool} {s u : Iter ℕ} {e : F} {r : Bool} (f : ℕ → Bool) (l : List ℕ) → ChecksAll fronts g s e r u → iter_rest s ≡ l
    → ((x : Bor ℕ) (b : Bool) (q : F) → Called g e (x, tt) b q → (q ≡ e) × (b ≡ f x.now)) → r ≡ all_of f l
all_told {u = u} {e = e} {r = r} f l ran rest says = all_from_yields_List f u e r ran (YieldsList-from_slice l rest) says ∙ all_listed f l

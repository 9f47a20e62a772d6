-- A walk is whole exactly on a faultless chain, else it names the chain's fault; it depends on the map's values of blocks only, and goes step by step as code does.
-- By cases on the walk's two tests. Assumes nothing.
use Rattle.std.specs.Prelude.{◌≡◌, refl, Bool, true, false, eqb}
use Rattle.std.proofs.Common.{inl, inr}
use Prim.Native.Nat.{ℕ, zero, suc}
use borrow.Author.Tests.{eqb-true, eqb-false}
use Rattle.laws.specs.Truth.{pick}
use Rattle.laws.specs.Lemmas.Truth.{clash}
use Rattle.layout.specs.declared.Layout.{Layout}
use Rattle.map.specs.Map.{Data, Chained, Astray, Miscounted, is_link, Walk, Whole, Bad, Cut, walk}
use Rattle.map.specs.Lemmas.Walks.{link_data, data_link}

-- ---- whole walks

-- what a walk's end says of the chain
abbrev Says : Layout → (ℕ → ℕ) → ℕ → ℕ → Walk → Type 0
Says l m k b Whole = Chained l m k b
Says l m k b Bad = Astray l m k b
Says l m k b Cut = Miscounted l m k b

says_on : (l : Layout) (m : ℕ → ℕ) (k b : ℕ) (w : Walk) → Data l b → (m b ≡ l.mark → ⊥) → Says l m k (m b) w → Says l m (suc k) b w
unfolding Chained Astray Miscounted
says_on l m k b Whole d n s = (d, s)
says_on l m k b Bad d n s = inr (d, n, s)
says_on l m k b Cut d n s = (d, inr s)

walk_says : (l : Layout) (m : ℕ → ℕ) (k b : ℕ) → Says l m k b (walk l m k b)
unfolding walk Chained Astray Miscounted
walk_says l m zero b = go (is_link l b) (eqb (m b) l.mark) refl refl
  where
    go : (t u : Bool) → is_link l b ≡ t → eqb (m b) l.mark ≡ u → Says l m zero b (pick t (pick u Whole Cut) Bad)
    go false u e f = λ d. clash (data_link l b d) e
    go true true e f = (link_data l b e, eqb-true (m b) l.mark f)
    go true false e f = (link_data l b e, eqb-false (m b) l.mark f)
walk_says l m (suc k) b = go (walk_says l m k (m b)) (is_link l b) (eqb (m b) l.mark) refl refl
  where
    go : Says l m k (m b) (walk l m k (m b)) → (t u : Bool) → is_link l b ≡ t → eqb (m b) l.mark ≡ u → Says l m (suc k) b (pick t (pick u Cut (walk l m k (m b))) Bad)
    go ih false u e f = inl (λ d. clash (data_link l b d) e)
    go ih true true e f = (link_data l b e, inl (eqb-true (m b) l.mark f))
    go ih true false e f = says_on l m k b (walk l m k (m b)) (link_data l b e) (eqb-false (m b) l.mark f) ih

pub walk_chained : (l : Layout) (m : ℕ → ℕ) (k b : ℕ) → walk l m k b ≡ Whole → Chained l m k b
walk_chained l m k b e = rw e at (walk_says l m k b)

pub walk_astray : (l : Layout) (m : ℕ → ℕ) (k b : ℕ) → walk l m k b ≡ Bad → Astray l m k b
walk_astray l m k b e = rw e at (walk_says l m k b)

pub walk_miscounted : (l : Layout) (m : ℕ → ℕ) (k b : ℕ) → walk l m k b ≡ Cut → Miscounted l m k b
walk_miscounted l m k b e = rw e at (walk_says l m k b)

-- A walk is whole exactly on a faultless chain, else it names the chain's fault; it depends on the map's values of blocks only, and goes step by step as code does.
-- By cases on the walk's two tests. Assumes nothing.
use Rattle.std.specs.Prelude.{◌≡◌, refl, Bool, true, false, ◌⊎◌, leb, ltb, eqb}
use Rattle.std.proofs.Common.{sym, true≢false, inl, inr, sub-one, arith}
use Prim.Native.Nat.{ℕ, zero, suc, ◌-◌, ◌<◌}
use borrow.Author.Tests.{eq-eqb, ne_eqb, leb-true, ltb-true, le-leb, lt-ltb}
use Rattle.laws.specs.Truth.{pick}
use Rattle.laws.specs.Lemmas.Truth.{both_true, true_both, false_if}
use Rattle.layout.specs.declared.Layout.{Layout}
use Rattle.layout.specs.Right.{LayoutRight}
use Rattle.map.specs.Map.{Data, Chained, Astray, Miscounted, is_link, Walk, Whole, Bad, Cut, walk, is_whole}
use Rattle.map.specs.Lemmas.Chains.{chained_first}

-- ---- links

pub link_data : (l : Layout) (v : ℕ) → is_link l v ≡ true → Data l v
unfolding is_link
link_data l v e = let p = both_true (leb l.first v) (ltb v l.blocks) e in (leb-true l.first v p.0, ltb-true v l.blocks p.1)

pub data_link : (l : Layout) (v : ℕ) → Data l v → is_link l v ≡ true
unfolding is_link
data_link l v d = true_both (leb l.first v) (ltb v l.blocks) (le-leb l.first v d.0) (lt-ltb v l.blocks d.1)

-- ---- whole walks

pub whole_is : (w : Walk) → is_whole w ≡ true → w ≡ Whole
whole_is Whole e = refl
whole_is Bad e = absurd (true≢false (sym e))
whole_is Cut e = absurd (true≢false (sym e))

pub chained_walk : (l : Layout) → LayoutRight l → (m : ℕ → ℕ) (k b : ℕ) → Chained l m k b → walk l m k b ≡ Whole
unfolding walk Chained
chained_walk l right m zero b c = rw (data_link l b c.0, eq-eqb (m b) l.mark c.1) refl
chained_walk l right m (suc k) b c =
    let d = chained_first l m k (m b) c.1 in
    rw (data_link l b c.0, ne_eqb (m b) l.mark (λ e. omega (arith, d.1, right.mark_out))) (chained_walk l right m k (m b) c.1)

no_link : (l : Layout) (b : ℕ) → (Data l b → ⊥) → is_link l b ≡ false
no_link l b n = false_if (is_link l b) (λ e. n (link_data l b e))

pub astray_walk : (l : Layout) (m : ℕ → ℕ) (k b : ℕ) → Astray l m k b → walk l m k b ≡ Bad
unfolding walk Astray
astray_walk l m zero b n = rw (no_link l b n) refl
astray_walk l m (suc k) b (inl n) = rw (no_link l b n) refl
astray_walk l m (suc k) b (inr a) = rw (data_link l b a.0, ne_eqb (m b) l.mark a.1) (astray_walk l m k (m b) a.2)

miscounted_first : (l : Layout) (m : ℕ → ℕ) (k b : ℕ) → Miscounted l m k b → Data l b
unfolding Miscounted
miscounted_first l m zero b c = c.0
miscounted_first l m (suc k) b c = c.0

pub miscounted_walk : (l : Layout) → LayoutRight l → (m : ℕ → ℕ) (k b : ℕ) → Miscounted l m k b → walk l m k b ≡ Cut
unfolding walk Miscounted
miscounted_walk l right m zero b c = rw (data_link l b c.0, ne_eqb (m b) l.mark c.1) refl
miscounted_walk l right m (suc k) b c = go (miscounted_walk l right m k (m b)) c.1
  where
    go : (Miscounted l m k (m b) → walk l m k (m b) ≡ Cut) → (m b ≡ l.mark) ⊎ Miscounted l m k (m b) → pick (is_link l b) (pick (eqb (m b) l.mark) Cut (walk l m k (m b))) Bad ≡ Cut
    go ih (inl e) = rw (data_link l b c.0, eq-eqb (m b) l.mark e) refl
    go ih (inr a) =
        let d = miscounted_first l m k (m b) a in
        rw (data_link l b c.0, ne_eqb (m b) l.mark (λ e. omega (arith, d.1, right.mark_out))) (ih a)

-- ---- maps that agree on all blocks

pub walk_cong : (l : Layout) (m n : ℕ → ℕ) → ((k : ℕ) → k < l.blocks → n k ≡ m k) → (k b : ℕ) → walk l n k b ≡ walk l m k b
unfolding walk
walk_cong l m n h zero b = go (is_link l b) refl
  where
    go : (t : Bool) → is_link l b ≡ t → pick (is_link l b) (pick (eqb (n b) l.mark) Whole Cut) Bad ≡ pick (is_link l b) (pick (eqb (m b) l.mark) Whole Cut) Bad
    go true e = rw (h b (link_data l b e).1) refl
    go false e = rw e refl
walk_cong l m n h (suc k) b = go (walk_cong l m n h k) (is_link l b) refl
  where
    go : ((c : ℕ) → walk l n k c ≡ walk l m k c) → (t : Bool) → is_link l b ≡ t
        → pick (is_link l b) (pick (eqb (n b) l.mark) Cut (walk l n k (n b))) Bad ≡ pick (is_link l b) (pick (eqb (m b) l.mark) Cut (walk l m k (m b))) Bad
    go ih true e = rw (h b (link_data l b e).1, ih (m b)) refl
    go ih false e = rw e refl

-- ---- a walk's steps, v being the map value of b

module _ (l : Layout) (m : ℕ → ℕ) where
  pub walk_bad : (k b : ℕ) → is_link l b ≡ false → walk l m k b ≡ Bad
  unfolding walk
  walk_bad zero b e = rw e
  walk_bad (suc k) b e = rw e

  module _ (k b v : ℕ) (link : is_link l b ≡ true) (value : v ≡ m b) where
    pub walk_whole : k ≡ 0 → v ≡ l.mark → walk l m k b ≡ Whole
    unfolding walk
    walk_whole h t = rw (h, link, ← value, eq-eqb v l.mark t)

    pub walk-over : k ≡ 0 → (v ≡ l.mark → ⊥) → walk l m k b ≡ Cut
    unfolding walk
    walk-over h t = rw (h, link, ← value, ne_eqb v l.mark t)

  pub walk_cut : (k b v : ℕ) → is_link l b ≡ true → v ≡ m b → (k ≡ 0 → ⊥) → v ≡ l.mark → walk l m k b ≡ Cut
  unfolding walk
  walk_cut zero b v e w h t = absurd (h refl)
  walk_cut (suc k) b v e w h t = rw (e, ← w, eq-eqb v l.mark t)

  pub walk-on : (k b v : ℕ) → is_link l b ≡ true → v ≡ m b → (k ≡ 0 → ⊥) → (v ≡ l.mark → ⊥) → walk l m k b ≡ walk l m (k - 1) v
  unfolding walk
  walk-on zero b v e w h t = absurd (h refl)
  walk-on (suc k) b v e w h t = rw (e, ← w, ne_eqb v l.mark t, sub-one)

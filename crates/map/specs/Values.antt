-- The map values on a chain, and what a value that is neither a link nor the end mark makes of one (document 01, "The disk": 6 before its last
-- block, 7 at it). Along the chain, block by block. Assumes nothing.
use Rattle.std.specs.Prelude.{◌≡◌, ◌⊎◌, get_or}
use Rattle.std.proofs.Common.{ap, ◌∙◌, arith}
use Rattle.std.proofs.Math.Logic.{inl, inr}
use Prim.Native.Nat.{ℕ, zero, suc, ◌≤◌, ◌<◌}
use Rattle.laws.specs.Member.{In}
use Rattle.layout.specs.declared.Layout.{Layout}
use Rattle.layout.specs.Right.{LayoutRight}
use Rattle.map.specs.Map.{Data, chain, Chained, Astray, Miscounted}
use Rattle.map.specs.Lemmas.Chains.{chained_first, nth_first}

-- A value that is no link and not the end mark.
abbrev pub Other : Layout → ℕ → Type 0
Other l v = (Data l v → ⊥) × (v ≡ l.mark → ⊥)

-- The way from a chain's start comes to its j-th block: that one and all before it lie in the data area.
abbrev pub Reaches : Layout → (ℕ → ℕ) → ℕ → ℕ → ℕ → Type 0
Reaches l m links start j = (i : ℕ) → i ≤ j → Data l (get_or (chain m links start) i 0)

module _ (l : Layout) (m : ℕ → ℕ) where
  -- Every block of a faultless chain holds a link or the end mark.
  pub chain-value : (links start x : ℕ) → Chained l m links start → In x (chain m links start) → Data l (m x) ⊎ (m x ≡ l.mark)
  unfolding chain Chained
  chain-value zero b x c (inl e) = inr (ap m e ∙ c.1)
  chain-value zero b x c (inr h) = absurd h
  chain-value (suc k) b x c (inl e) = inl (rw e (chained_first l m k (m b) c.1))
  chain-value (suc k) b x c (inr h) = chain-value k (m b) x c.1 h

  -- Its last block holds the end mark.
  pub last_value : (links start : ℕ) → Chained l m links start → m (get_or (chain m links start) links 0) ≡ l.mark
  unfolding chain Chained
  last_value zero b c = c.1
  last_value (suc k) b c = last_value k (m b) c.1

  astray_start : (links start : ℕ) → (Data l start → ⊥) → Astray l m links start
  unfolding Astray
  astray_start zero b n = n
  astray_start (suc k) b n = inl n

  -- Another value before the last block: 6.
  pub other_before : LayoutRight l → (links start j : ℕ) → j < links → Reaches l m links start j → Other l (m (get_or (chain m links start) j 0)) → Astray l m links start
  unfolding chain Astray
  other_before right zero b j h r o = absurd (omega arith)
  other_before right (suc k) b zero h r o = inr (r 0 (omega arith), o.1, astray_start k (m b) o.0)
  other_before right (suc k) b (suc j) h r o =
      let d : Data l (m b) = rw (nth_first m k (m b)) (r 1 (omega arith)) in
      inr (r 0 (omega arith), λ e. omega (arith, d.1, right.mark_out), other_before right k (m b) j (omega arith) (λ i p. r (suc i) (omega arith)) o)

  -- Another value at the last block: 7.
  pub other_last : (links start : ℕ) → Reaches l m links start links → Other l (m (get_or (chain m links start) links 0)) → Miscounted l m links start
  unfolding chain Miscounted
  other_last zero b r o = (r 0 (omega arith), o.1)
  other_last (suc k) b r o = (r 0 (omega arith), inr (other_last k (m b) (λ i p. r (suc i) (omega arith)) o))

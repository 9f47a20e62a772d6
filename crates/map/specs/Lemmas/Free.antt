-- The free blocks of a range: in the range, free, none twice, as many as the map counts; and the turns of a loop that collects them.
-- They are those of the range whose map value is 0, and each law is that of such a list. Assumes nothing.
use Rattle.std.specs.Prelude.{◌≡◌, [], ◌∷◌, ℕ, ◌+◌, ◌-◌, ◌≤◌, ◌<◌, length}
use Rattle.std.proofs.Math.Dec.{eqb}
use borrow.Author.Tests.{eqb-true, eq-eqb, ne_eqb}
use Rattle.laws.specs.Scan.{count}
use Rattle.laws.specs.Lemmas.Scan.{those_end, those_stop, those-on, in_those, those_distinct, those-count}
use Rattle.laws.specs.Member.{In, Distinct}
use Rattle.map.specs.Map.{free_from}

module _ (m : ℕ → ℕ) (i n : ℕ) where
  -- ---- the loop

  pub free_end : n ≤ i → free_from m i (n - i) ≡ []
  unfolding free_from
  free_end = those_end (λ k. eqb (m k) 0) i n

  pub free_stop : i < n → m i ≡ 0 → free_from m i (n - i) ≡ i ∷ free_from m (i + 1) (n - (i + 1))
  unfolding free_from
  free_stop h e = those_stop (λ k. eqb (m k) 0) i n h (eq-eqb (m i) 0 e)

  pub free_on : i < n → (m i ≡ 0 → ⊥) → free_from m i (n - i) ≡ free_from m (i + 1) (n - (i + 1))
  unfolding free_from
  free_on h e = those-on (λ k. eqb (m k) 0) i n h (ne_eqb (m i) 0 e)

  -- ---- the blocks

  pub in_free : (x : ℕ) → In x (free_from m i n) → (i ≤ x) × (x < i + n) × (m x ≡ 0)
  unfolding free_from
  in_free x h = let r = in_those (λ k. eqb (m k) 0) i n x h in (r.0, r.1, eqb-true (m x) 0 r.2)

  pub free_distinct : Distinct (free_from m i n)
  unfolding free_from
  free_distinct = those_distinct (λ k. eqb (m k) 0) i n

  pub free-count : length (free_from m i n) ≡ count (λ k. eqb (m k) 0) i n
  unfolding free_from
  free-count = those-count (λ k. eqb (m k) 0) i n

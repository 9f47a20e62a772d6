-- Searches, counts, lists, sums and tests over a range of numbers, each one fold over it. Assumes nothing.
use Rattle.std.specs.Prelude.{Bool, true, false, List, [], ◌∷◌, ℕ, zero, suc, ◌+◌, Some, None, Option}
use Rattle.laws.specs.Truth.{pick, both}

-- step at each of the n numbers from i on, the last one first
unfoldable pub over : {A : Type 0} → (ℕ → A → A) → A → ℕ → ℕ → A
over step end i zero = end
over step end i (suc n) = step i (over step end (suc i) n)

-- What a search finds: the lowest place that passes a test, or none.
abbrev pub Lowest : Type 0
Lowest = Option ℕ

abbrev pub is_at : Lowest → Bool
is_at (Some k) = true
is_at None = false

-- the lowest of the n numbers from i on that passes the test
unfoldable pub lowest : (ℕ → Bool) → ℕ → ℕ → Lowest
unfolding over
lowest f i n = over (λ k rest. pick (f k) (Some k) rest) None i n

-- how many of them pass
unfoldable pub count : (ℕ → Bool) → ℕ → ℕ → ℕ
unfolding over
count f i n = over (λ k rest. pick (f k) (suc rest) rest) 0 i n

-- those that pass, in rising order
unfoldable pub those : (ℕ → Bool) → ℕ → ℕ → List ℕ
unfolding over
those f i n = over (λ k rest. pick (f k) (k ∷ rest) rest) [] i n

-- whether all of them pass
unfoldable pub all : (ℕ → Bool) → ℕ → ℕ → Bool
unfolding over
all f i n = over (λ k rest. both (f k) rest) true i n

-- whether any of them passes
unfoldable pub any : (ℕ → Bool) → ℕ → ℕ → Bool
unfolding over
any f i n = over (λ k rest. pick (f k) true rest) false i n

-- the sum of f at them
unfoldable pub total : (ℕ → ℕ) → ℕ → ℕ → ℕ
unfolding over
total f i n = over (λ k rest. f k + rest) 0 i n

-- Searches, counts, lists, sums and tests over a range of numbers, with the laws of a loop that makes them: its end, its stop, its next turn.
-- All are one fold, `over`, so each law is one citation of the fold's. Assumes nothing.
use Rattle.std.specs.Prelude.{◌≡◌, Bool, Some, None}
use Rattle.std.proofs.Math.Path.{refl}
use Rattle.std.proofs.Math.Bool.{true}
use Prim.Native.Nat.{ℕ, ◌+◌, ◌≤◌, ◌<◌}
use Rattle.laws.specs.Lemmas.Truth.{clash}
use Rattle.laws.specs.Scan.{lowest, any, Lowest}
use Rattle.laws.specs.Lemmas.Scan.{nowhere→, at→, →none}

-- ---- tests of all and of any

-- one passes: the lowest that does
pub some→ : (f : ℕ → Bool) (i n : ℕ) → any f i n ≡ true → (k : ℕ) × (i ≤ k) × (k < i + n) × (f k ≡ true)
some→ f i n e = go (lowest f i n) refl
  where
    go : (w : Lowest) → lowest f i n ≡ w → (k : ℕ) × (i ≤ k) × (k < i + n) × (f k ≡ true)
    go (Some k) p = let w = at→ f i n k p in (k, w.0, w.1, w.2)
    go None p = absurd (clash e (→none f i n (nowhere→ f i n p)))

-- A loop that searches for the lowest place: what the rest finds is what the whole finds. Its start, its stop, its next turn and its end.
-- By the laws of `lowest`; r is what the code answers of the place in hand. Assumes nothing.
use Rattle.std.specs.Prelude.{◌≡◌, refl, Bool, ℕ, ◌-◌, ◌≤◌}
use Rattle.std.proofs.Common.{arith}
use Rattle.std.proofs.Math.Nat.{sub-zero}
use Rattle.laws.specs.Scan.{lowest}

-- the places below i are passed
abbrev pub Searched : (ℕ → Bool) → ℕ → ℕ → Type 0
Searched f n i = (i ≤ n) × (lowest f i (n - i) ≡ lowest f 0 n)

pub searched_none : (f : ℕ → Bool) (n : ℕ) → Searched f n 0
searched_none f n = (omega arith, rw (sub-zero n) refl)

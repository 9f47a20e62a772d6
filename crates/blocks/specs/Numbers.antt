-- Numbers of some bytes, least significant byte first (document 01). Assumes nothing.
use Rattle.std.specs.Prelude.{◌≡◌, List, [], ◌∷◌, ℕ, zero, suc, ◌+◌, ◌*◌, ◌/◌, ◌%◌, ◌<◌}

-- The number that `width` bytes hold, from an offset on.
unfoldable pub number : ℕ → (ℕ → ℕ) → ℕ → ℕ
number zero b at = 0
number (suc width) b at = b at + 256 * number width b (suc at)

-- The bytes of a number.
unfoldable pub digits : ℕ → ℕ → List ℕ
digits zero v = []
digits (suc width) v = v % 256 ∷ digits width (v / 256)

-- The first number that takes more bytes.
abbrev pub top : ℕ → ℕ
top zero = 1
top (suc width) = 256 * top width

-- What a function that reads a number answers.
pub record Number (width : ℕ) (b : ℕ → ℕ) (at r : ℕ) : Type 0 where
  pub value : r ≡ number width b at
  pub small : r < top width

-- Bytes by their offset, and so many of them as a list. Assumes nothing.
use Rattle.std.specs.Prelude.{List, [], ◌∷◌, ℕ, get_or}
use Rattle.laws.specs.Scan.{over}

-- the bytes of a list by their offsets, 0 past its end
abbrev pub bytes : List ℕ → ℕ → ℕ
bytes l k = get_or l k 0

-- f i, f (i + 1), .., n of them
unfoldable pub tab : (ℕ → ℕ) → ℕ → ℕ → List ℕ
unfolding over
tab f i n = over (λ k rest. f k ∷ rest) [] i n

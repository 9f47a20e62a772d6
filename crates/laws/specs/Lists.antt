-- Tests over lists: all elements pass, two lists are equal, two lists meet. Assumes nothing.
use Rattle.std.specs.Prelude.{Bool, true, false, List, [], ◌∷◌, ℕ, eqb}
use Rattle.laws.specs.Truth.{pick, both}
use Rattle.laws.specs.Member.{has}

-- every element passes the test
unfoldable pub all_of : (ℕ → Bool) → List ℕ → Bool
all_of f [] = true
all_of f (x ∷ l) = both (f x) (all_of f l)

-- the lists are equal
unfoldable pub same : List ℕ → List ℕ → Bool
same [] [] = true
same [] (y ∷ ys) = false
same (x ∷ xs) [] = false
same (x ∷ xs) (y ∷ ys) = both (eqb x y) (same xs ys)

-- an element of ys is one of xs
unfoldable pub meets : List ℕ → List ℕ → Bool
unfolding has
meets xs [] = false
meets xs (y ∷ ys) = pick (has xs y) true (meets xs ys)

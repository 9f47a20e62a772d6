-- Members of a list, and lists without repeats. Assumes nothing.
use Rattle.std.specs.Prelude.{◌≡◌, Bool, true, false, List, [], ◌∷◌, ◌⊎◌, ℕ, eqb}

abbrev pub In : ℕ → List ℕ → Type 0
In x [] = ⊥
In x (y ∷ l) = (x ≡ y) ⊎ In x l

-- the same as a test
unfoldable pub has : List ℕ → ℕ → Bool
has [] x = false
has (y ∷ l) x = elim (eqb x y) [ true ↦ true | false ↦ has l x ]

-- none twice
abbrev pub Distinct : List ℕ → Type 0
Distinct [] = Unit {0}
Distinct (x ∷ l) = (In x l → ⊥) × Distinct l

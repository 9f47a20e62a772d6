-- A choice by a test, two tests at once, a number in a range. Assumes nothing.
use Rattle.std.specs.Prelude.{Bool, true, false, ℕ, leb}

abbrev pub pick : {A : Type 0} → Bool → A → A → A
pick true a b = a
pick false a b = b

abbrev pub both : Bool → Bool → Bool
both true b = b
both false b = false

-- v lies between low and high, both included
abbrev pub within : ℕ → ℕ → ℕ → Bool
within low high v = both (leb low v) (leb v high)

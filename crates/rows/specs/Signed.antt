-- A rule from -n to n holds exactly of the numbers that stand for a whole number from -n to n in two's complement.
-- By the two halves of the bytes' values. Assumes nothing.
use Rattle.std.specs.Prelude.{◌≡◌, Bool, List, ◌↔◌, ℕ, suc, ◌+◌, ◌-◌, ◌≤◌, ◌<◌, ℤ}
use Rattle.std.proofs.Math.Path.{refl}
use Rattle.std.proofs.Math.Bool.{true, false}
use native.Mathlib.Omega.{arith}
use Rattle.std.proofs.Math.Dec.{leb}
use Rattle.std.proofs.Math.IntN.{pos, negsuc}
use borrow.Author.Tests.{leb-true, le-leb}
use Rattle.blocks.specs.Numbers.{top}
use Rattle.rows.specs.declared.Rule.TheVariants.{Within}
use Rattle.rows.specs.Rows.{legal}

-- z lies between -n and n.
abbrev pub Between : ℕ → ℤ → Type 0
Between n (pos m) = m ≤ n
Between n (negsuc m) = m < n

-- The number v of `size` bytes stands for z: v is z, or z and the first number that takes more bytes.
abbrev pub StandsFor : ℕ → ℤ → ℕ → Type 0
StandsFor size (pos m) v = v ≡ m
StandsFor size (negsuc m) v = v + suc m ≡ top size

-- The number v of `size` bytes, in two's complement, is one from -n to n.
pub record Signed (size n v : ℕ) : Type 0 where
  pub value : ℤ
  pub between : Between n value
  pub stands : StandsFor size value v

module _ (header : List ℕ) (base size n v : ℕ) where
  legal→ : v < top size → legal header base size (Within n) v ≡ true → Signed size n v
  unfolding legal
  legal→ h e = go (leb v n) refl
    where
      go : (low : Bool) → leb v n ≡ low → Signed size n v
      go true p = record { value = pos v; between = leb-true v n p; stands = refl }
      go false p =
          let q : leb (top size) (v + n) ≡ true = rw p at e in
          let k = leb-true (top size) (v + n) q in
          record { value = negsuc (top size - v - 1); between = omega arith; stands = omega arith }

  →legal : (z : ℤ) → Between n z → StandsFor size z v → legal header base size (Within n) v ≡ true
  unfolding legal
  →legal (pos m) b s = rw (le-leb v n (omega arith)) refl
  →legal (negsuc m) b s = go (leb v n) refl
    where
      go : (low : Bool) → leb v n ≡ low → legal header base size (Within n) v ≡ true
      go true p = rw p refl
      go false p = rw (p, le-leb (top size) (v + n) (omega arith)) refl

  pub legal_signed : v < top size → (legal header base size (Within n) v ≡ true) ↔ Signed size n v
  legal_signed h = (legal→ h, λ s. →legal s.value s.between s.stands)

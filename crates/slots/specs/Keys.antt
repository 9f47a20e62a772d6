-- The two halves of a name's area as numbers, by which names are compared, with the type. Assumes nothing.
use Rattle.std.specs.Prelude.{◌≡◌, Bool, ℕ, ◌+◌, ◌<◌, eqb}
use Rattle.laws.specs.Truth.{both}
use Rattle.layout.specs.declared.Layout.{Layout}
use Rattle.layout.specs.Layouts.{slot_offset}
use Rattle.blocks.specs.Numbers.{number}
use Rattle.image.specs.Image.{entry_at}
use Rattle.slots.specs.declared.Keys.{Keys}

-- What a function that reads eight bytes as one number answers; being bytes, they alone make this number.
pub record Key (b : ℕ → ℕ) (at r : ℕ) : Type 0 where
  pub value : r ≡ number 8 b at
  pub small : (k : ℕ) → b k < 256

-- What a function that makes keys of the name's area at a place and a type answers.
pub record Keyed (b : ℕ → ℕ) (at type : ℕ) (r : Keys) : Type 0 where
  pub low : r.low ≡ number 8 b at
  pub high : r.high ≡ number 8 b (at + 8)
  pub letter : r.letter ≡ type
  pub small : (k : ℕ) → b k < 256

-- The two halves of a slot's name area have these keys, each the number of its eight bytes, and the slot has this type.
unfoldable pub has_keys : Layout → (ℕ → ℕ) → ℕ → ℕ → ℕ → ℕ → Bool
unfolding entry_at number
has_keys l b s low high type =
    both (both (eqb (number 8 b (slot_offset l s)) low) (eqb (number 8 b (slot_offset l s + 8)) high)) (eqb type (entry_at b (slot_offset l s)).type)

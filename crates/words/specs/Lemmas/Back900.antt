-- S900 data there and back: the words of packed words are those words, and the data of unpacked data are those data.
-- By the bits of each word: a pair of bytes and an upper byte are read where they were written. Assumes nothing.
use Rattle.std.specs.Prelude.{◌≡◌, true, ℕ, ◌+◌, ◌-◌, ◌*◌, ◌/◌, ◌<◌, ℤ, pos}
use Rattle.std.proofs.Math.Path.{refl, ap, ap₂}
use Rattle.std.proofs.Common.{sym, ◌∙◌, zero-add}
use mathlib.Core.List.{List, ◌++◌, map}
use Rattle.std.proofs.Math.Decide.{dec_lt}
use native.Mathlib.Omega.{arith}
use Rattle.std.proofs.Math.ListN.{length, get_or, length-append, get_or-append}
use Rattle.std.proofs.lemmas.List.{length-map}
use Rattle.std.proofs.Math.Seq.{get_or-append-add}
use Rattle.laws.specs.Reader.{bytes, tab}
use Rattle.laws.specs.Lemmas.Reader.{length-tab, get_or-tab}
use Rattle.words.specs.Words.{parts, word_of, holds, pair_at, upper_bits, packed900, first_bits, second_bits, unpacked900}
use Rattle.words.specs.Lemmas.Parts.{length-parts}
use Rattle.words.specs.Lemmas.Back.{held_again}

module _ (words : List ℤ) (half : ℕ) (n : length words ≡ 2 * half) where
  unfoldable pub pairs : List ℕ
  pairs = parts (pair_at words half) 0 half

  pub pairs_long : length pairs ≡ 2 * half
  unfolding pairs
  pairs_long = length-parts (pair_at words half) 2 (λ k. refl) 0 half

  pub packed_is : packed900 words ≡ pairs ++ tab (upper_bits words half) 0 half
  unfolding packed900 pairs
  packed_is = let e : length words / 2 ≡ half = omega arith in rw e refl

  pub length900 : length (packed900 words) ≡ 2 * half + half
  length900 = ap length packed_is ∙ length-append pairs _ ∙ ap₂ ◌+◌ pairs_long (length-tab (upper_bits words half) 0 half)

module _ (l : List ℕ) (half : ℕ) (n : length l ≡ 2 * half + half) (small : (k : ℕ) → bytes l k < 256) where
  first : List ℕ
  first = tab (first_bits (bytes l)) 0 half

  second : List ℕ
  second = tab (second_bits (bytes l) half) 0 half

  pub bits : List ℕ
  bits = first ++ second

  pub unpacked_is : unpacked900 (bytes l) (2 * half) ≡ map (word_of 4096) bits
  unfolding unpacked900 bits first second
  unpacked_is = let e : 2 * half / 2 ≡ half = omega arith in rw e refl

  pub bits_long : length bits ≡ 2 * half
  unfolding bits first second
  bits_long = length-append first second ∙ omega (arith, length-tab (first_bits (bytes l)) 0 half, length-tab (second_bits (bytes l) half) 0 half)

  pub bit_first : (i : ℕ) → i < half → get_or bits i 0 ≡ first_bits (bytes l) i
  unfolding bits first
  bit_first i h =
      get_or-append first second 0 i (omega (arith, length-tab (first_bits (bytes l)) 0 half)) ∙ get_or-tab (first_bits (bytes l)) 0 half i h ∙ ap (first_bits (bytes l)) (zero-add i)

  pub bit_second : (i : ℕ) → i < half → get_or bits (half + i) 0 ≡ second_bits (bytes l) half i
  unfolding bits first second
  bit_second i h =
      ap (λ (j : ℕ). get_or (first ++ second) (j + i) 0) (sym (length-tab (first_bits (bytes l)) 0 half)) ∙ get_or-append-add first second i 0
      ∙ get_or-tab (second_bits (bytes l) half) 0 half i h ∙ ap (second_bits (bytes l) half) (zero-add i)

  first_small : (i : ℕ) → first_bits (bytes l) i < 4096
  first_small i = omega (arith, small (2 * i), small (2 * i + 1))

  second_small : (i : ℕ) → second_bits (bytes l) half i < 4096
  second_small i = omega (arith, small (2 * i), small (2 * half + i))

  pub bit_small : (i : ℕ) → i < 2 * half → get_or bits i 0 < 4096
  bit_small i h = go (dec_lt i half)
    where
      go : Dec (i < half) → get_or bits i 0 < 4096
      go (yes p) = rw (bit_first i p) (first_small i)
      go (no p) = let e : half + (i - half) ≡ i = omega arith in rw (← e, bit_second (i - half) (omega arith)) (second_small (i - half))

  pub words_long : length (unpacked900 (bytes l) (2 * half)) ≡ 2 * half
  words_long = ap length unpacked_is ∙ length-map bits (word_of 4096) ∙ bits_long

  pub held900 : (i : ℕ) → i < 2 * half → holds 4096 (get_or (unpacked900 (bytes l) (2 * half)) i (pos 0)) ≡ true
  held900 i h = ap (λ (ws : List ℤ). holds 4096 (get_or ws i (pos 0))) unpacked_is ∙ held_again 4096 bits i refl (let e = bits_long in omega arith) (bit_small i h)

-- S900 data there and back: the words of packed words are those words, and the data of unpacked data are those data.
-- By the bits of each word: a pair of bytes and an upper byte are read where they were written. Assumes nothing.
use Rattle.std.specs.Prelude.{◌≡◌, true, ℕ, ◌+◌, ◌*◌, ◌/◌, ◌<◌, ℤ, pos}
use Rattle.std.proofs.Math.Path.{refl, ap, ap₂}
use Rattle.std.proofs.Common.{sym, ◌∙◌, zero-add, add-zero}
use mathlib.Core.List.{List, [], ◌∷◌, ◌++◌}
use native.Mathlib.Omega.{arith}
use Rattle.std.proofs.Math.ListN.{length, get_or, get_or-append}
use Rattle.std.proofs.Math.Seq.{get_or-append-add}
use Rattle.laws.specs.Reader.{bytes, tab}
use Rattle.laws.specs.Lemmas.Reader.{get_or-tab, tab_is, tab_cong, tab-append}
use Rattle.words.specs.Words.{holds, bits_at, low_bits, high_bits, pair_at, upper_bits, packed900, first_bits, second_bits, unpacked900}
use Rattle.words.specs.Lemmas.Parts.{get_or-parts, parts_cong, parts_pairs}
use Rattle.words.specs.Lemmas.Back.{bits_small, words_again, bits_again}
use Rattle.words.specs.Lemmas.Back900.{pairs, pairs_long, packed_is, bits, unpacked_is, bits_long, bit_first, bit_second, bit_small, words_long}

module _ (words : List ℤ) (half : ℕ) (n : length words ≡ 2 * half) where
  byte_low : (i : ℕ) → i < half → bytes (packed900 words) (2 * i) ≡ low_bits words half i
  unfolding pairs
  byte_low i h =
      ap (λ (l : List ℕ). get_or l (2 * i) 0) (packed_is words half n) ∙ get_or-append (pairs words half n) _ 0 (2 * i) (let e = pairs_long words half n in omega arith)
      ∙ ap (λ (j : ℕ). get_or (pairs words half n) j 0) (sym (add-zero (2 * i))) ∙ get_or-parts (pair_at words half) 2 (λ k. refl) 0 half i 0 h (omega arith)
      ∙ ap (low_bits words half) (zero-add i)

  byte_high : (i : ℕ) → i < half → bytes (packed900 words) (2 * i + 1) ≡ high_bits words i
  unfolding pairs
  byte_high i h =
      ap (λ (l : List ℕ). get_or l (2 * i + 1) 0) (packed_is words half n) ∙ get_or-append (pairs words half n) _ 0 (2 * i + 1) (let e = pairs_long words half n in omega arith)
      ∙ get_or-parts (pair_at words half) 2 (λ k. refl) 0 half i 1 h (omega arith) ∙ ap (high_bits words) (zero-add i)

  byte_upper : (i : ℕ) → i < half → bytes (packed900 words) (2 * half + i) ≡ upper_bits words half i
  byte_upper i h =
      ap (λ (l : List ℕ). get_or l (2 * half + i) 0) (packed_is words half n) ∙ ap (λ (j : ℕ). get_or (pairs words half n ++ tab (upper_bits words half) 0 half) (j + i) 0) (sym (pairs_long words half n))
      ∙ get_or-append-add (pairs words half n) (tab (upper_bits words half) 0 half) i 0 ∙ get_or-tab (upper_bits words half) 0 half i h ∙ ap (upper_bits words half) (zero-add i)

  first_again : (i : ℕ) → i < half → first_bits (bytes (packed900 words)) i ≡ bits_at 4096 words i
  first_again i h =
      let x : bits_at 4096 words i < 4096 = bits_small 4096 (get_or words i (pos 0)) (omega arith) in
      omega (arith, byte_low i h, byte_high i h)

  second_again : (i : ℕ) → i < half → second_bits (bytes (packed900 words)) half i ≡ bits_at 4096 words (half + i)
  second_again i h =
      let x : bits_at 4096 words (half + i) < 4096 = bits_small 4096 (get_or words (half + i) (pos 0)) (omega arith) in
      omega (arith, byte_low i h, byte_upper i h)

  pub unpack900 : ((i : ℕ) → i < length words → holds 4096 (get_or words i (pos 0)) ≡ true) → unpacked900 (bytes (packed900 words)) (length words) ≡ words
  unfolding unpacked900
  unpack900 held =
      let b = bytes (packed900 words) in
      let e : length words / 2 ≡ half = omega arith in
      let m : half + half ≡ length words = omega arith in
      rw (e, tab_cong (bits_at 4096 words) (first_bits b) 0 half (λ i p q. first_again i (omega arith)), tab_cong (λ i. bits_at 4096 words (half + i)) (second_bits b half) 0 half (λ i p q. second_again i (omega arith)), tab-append (bits_at 4096 words) half half, m)
      (words_again 4096 words held)

module _ (l : List ℕ) (half : ℕ) (n : length l ≡ 2 * half + half) (small : (k : ℕ) → bytes l k < 256) where
  words : List ℤ
  words = unpacked900 (bytes l) (2 * half)

  word_first : (i : ℕ) → i < half → bits_at 4096 words i ≡ first_bits (bytes l) i
  unfolding words
  word_first i h =
      ap (λ (ws : List ℤ). bits_at 4096 ws i) (unpacked_is l half n small) ∙ bits_again 4096 (bits l half n small) i refl (let e = bits_long l half n small in omega arith) (bit_small l half n small i (omega arith)) ∙ bit_first l half n small i h

  word_second : (i : ℕ) → i < half → bits_at 4096 words (half + i) ≡ second_bits (bytes l) half i
  unfolding words
  word_second i h =
      ap (λ (ws : List ℤ). bits_at 4096 ws (half + i)) (unpacked_is l half n small) ∙ bits_again 4096 (bits l half n small) (half + i) refl (let e = bits_long l half n small in omega arith) (bit_small l half n small (half + i) (omega arith)) ∙ bit_second l half n small i h

  pair_again : (i : ℕ) → i < half → pair_at words half i ≡ bytes l (2 * i) ∷ bytes l (2 * i + 1) ∷ []
  pair_again i h =
      let x = word_first i h in
      let y = word_second i h in
      let low : low_bits words half i ≡ bytes l (2 * i) = omega (arith, small (2 * i), small (2 * i + 1)) in
      let high : high_bits words i ≡ bytes l (2 * i + 1) = omega (arith, small (2 * i)) in
      rw (low, high) refl

  upper_again : (i : ℕ) → i < half → upper_bits words half i ≡ bytes l (2 * half + i)
  upper_again i h = let y = word_second i h in omega (arith, small (2 * i))

  pub pack900 : packed900 (unpacked900 (bytes l) (2 * half)) ≡ l
  unfolding pairs words
  pack900 =
      packed_is words half (words_long l half n small)
      ∙ ap₂ (λ (x y : List ℕ). x ++ y) (parts_cong (pair_at words half) _ half pair_again ∙ parts_pairs (bytes l) 0 half) (tab_cong (λ i. bytes l (2 * half + i)) (upper_bits words half) 0 half (λ i p q. upper_again i (omega arith)))
      ∙ tab-append (bytes l) (2 * half) half ∙ ap (tab (bytes l) 0) (sym n) ∙ tab_is (bytes l) 0 l (λ k p. ap (bytes l) (zero-add k))

-- The data of sample files in pieces, as the code writes and fills them: two halves are the whole, and a pair of bytes is one number.
-- By the laws of writes that go on where another ends, and by arithmetic. Assumes nothing.
use Rattle.std.specs.Prelude.{◌≡◌, refl, List, map, ℕ, ◌+◌, ◌*◌, ◌/◌, ◌%◌, ℤ, length}
use Rattle.std.proofs.Common.{sym, ap, ◌∙◌, zero-add, add-one, arith}
use Rattle.std.proofs.lemmas.List.{map-append, length-map}
use Rattle.std.proofs.lemmas.List.Edits.{sets}
use Rattle.laws.specs.Splice.{splice}
use Rattle.laws.specs.Lemmas.Splice.{splice-append, sets_append}
use Rattle.laws.specs.Reader.{tab}
use Rattle.laws.specs.Lemmas.Reader.{length-tab}
use Rattle.blocks.specs.Numbers.{number, Number}
use Rattle.words.specs.Words.{parts, word_of, pair_at, upper_bits, packed900, first_bits, second_bits, unpacked900}
use Rattle.words.specs.Lemmas.Parts.{length-parts}

pub packed_halves : (words : List ℤ) (out : List ℕ) (at : ℕ) {mid end : List ℕ} → mid ≡ splice out at (parts (pair_at words (length words / 2)) 0 (length words / 2))
    → end ≡ splice mid (at + 2 * (length words / 2)) (tab (upper_bits words (length words / 2)) 0 (length words / 2)) → end ≡ splice out at (packed900 words)
unfolding packed900
packed_halves words out at p q =
    let half = length words / 2 in
    let pairs = parts (pair_at words half) 0 half in
    q ∙ rw (p, ← length-parts (pair_at words half) 2 (λ k. refl) 0 half) (splice-append out at pairs (tab (upper_bits words half) 0 half))

pub unpacked_halves : (byte : ℕ → ℕ) (count : ℕ) (words : List ℤ) {mid end : List ℤ} → mid ≡ sets words 0 (map (word_of 4096) (tab (first_bits byte) 0 (count / 2)))
    → end ≡ sets mid (count / 2) (map (word_of 4096) (tab (second_bits byte (count / 2)) 0 (count / 2))) → end ≡ sets words 0 (unpacked900 byte count)
unfolding unpacked900
unpacked_halves byte count words p q =
    let half = count / 2 in
    let first = map (word_of 4096) (tab (first_bits byte) 0 half) in
    let second = map (word_of 4096) (tab (second_bits byte half) 0 half) in
    let n : half ≡ 0 + length first = sym (zero-add (length first) ∙ length-map (tab (first_bits byte) 0 half) (word_of 4096) ∙ length-tab (first_bits byte) 0 half) in
    q ∙ rw p (ap (λ k. sets (sets words 0 first) k second) n ∙ sets_append words 0 first second)
    ∙ ap (sets words 0) (sym (map-append (word_of 4096) (tab (first_bits byte) 0 half) (tab (second_bits byte half) 0 half)))

-- ---- the bits of a word, by the number in its pair of bytes

module _ (byte : ℕ → ℕ) (i : ℕ) {pair : ℕ} (n : Number 2 byte (2 * i) pair) where
  value : pair ≡ byte (2 * i) + 256 * byte (2 * i + 1)
  unfolding number
  value = n.value ∙ rw (add-one (2 * i)) (omega arith)

  pub first_bits_is : pair / 16 ≡ first_bits byte i
  first_bits_is = omega (arith, value)

  pub second_bits_is : (half : ℕ) → 16 * byte (2 * half + i) + pair % 16 ≡ second_bits byte half i
  second_bits_is half = omega (arith, value)

-- S1000 data there and back, and the data of both samplers: packing and unpacking words undo each other.
-- By the bits of each word, which are read where they were written. Assumes nothing.
use Rattle.std.specs.Prelude.{◌≡◌, true, ℕ, suc, ◌+◌, ◌*◌, ◌/◌, ◌%◌, ◌<◌, eqb, ℤ, pos, length}
use Rattle.std.proofs.Math.Path.{refl, ap}
use Rattle.std.proofs.Common.{sym, subst, ◌∙◌, zero-add, eqb-true}
use mathlib.Core.List.{List, [], ◌∷◌, map}
use Rattle.std.proofs.Math.Numerals.{add-one}
use native.Mathlib.Omega.{arith}
use Rattle.std.proofs.Math.ListN.{get_or}
use Rattle.std.proofs.lemmas.List.{length-map}
use Rattle.laws.specs.Reader.{bytes, tab}
use Rattle.laws.specs.Lemmas.Reader.{length-tab, get_or-tab, tab_is, tab_cong}
use Rattle.blocks.specs.Numbers.{number, digits}
use Rattle.blocks.specs.Lemmas.Numbers.{length_digits, number_is}
use Rattle.words.specs.Words.{parts, word_of, holds, bits_at, packed900, unpacked900}
use Rattle.words.specs.Lemmas.Parts.{length-parts, get_or-parts, parts_cong, parts_pairs}
use Rattle.words.specs.Lemmas.Back.{bits_small, words_again, bits_again, held_again}
use Rattle.words.specs.Lemmas.Back900.{length900, words_long, held900}
use Rattle.words.proofs.Lemmas.Back900.{unpack900, pack900}
use Rattle.samples.specs.declared.Sampler.{Sampler}
use Rattle.samples.specs.declared.Sampler.TheVariants.{S900, S1000}
use Rattle.samples.specs.Samples.{data_size, is_whole, packed1000, unpacked1000, packed, unpacked, bits_size, Held, Bytes}

-- ---- S1000 data

module _ (words : List ℤ) where
  two : ℕ → List ℕ
  two i = digits 2 (bits_at 65536 words i)

  number_again : (i : ℕ) → i < length words → number 2 (bytes (packed1000 words)) (2 * i) ≡ bits_at 65536 words i
  unfolding packed1000 two
  number_again i h =
      number_is 2 (bytes (packed1000 words)) (2 * i) (bits_at 65536 words i) (bits_small 65536 (get_or words i (pos 0)) (omega arith))
      (λ k p. get_or-parts two 2 (λ m. length_digits 2 (bits_at 65536 words m)) 0 (length words) i k h p ∙ ap (λ (m : ℕ). get_or (two m) k 0) (zero-add i))

  length1000 : length (packed1000 words) ≡ 2 * length words
  unfolding packed1000 two
  length1000 = length-parts two 2 (λ m. length_digits 2 (bits_at 65536 words m)) 0 (length words)

  unpack1000 : ((i : ℕ) → i < length words → holds 65536 (get_or words i (pos 0)) ≡ true) → unpacked1000 (bytes (packed1000 words)) (length words) ≡ words
  unfolding unpacked1000
  unpack1000 held =
      rw (tab_cong (bits_at 65536 words) (λ i. number 2 (bytes (packed1000 words)) (2 * i)) 0 (length words) (λ i p q. number_again i (omega arith)))
      (words_again 65536 words held)

module _ (l : List ℕ) (count : ℕ) (n : length l ≡ 2 * count) (small : (k : ℕ) → bytes l k < 256) where
  bits_at_is : ℕ → ℕ
  bits_at_is i = number 2 (bytes l) (2 * i)

  table : List ℕ
  table = tab bits_at_is 0 count

  table_long : length table ≡ count
  unfolding table
  table_long = length-tab bits_at_is 0 count

  table_at : (i : ℕ) → i < count → get_or table i 0 ≡ bits_at_is i
  unfolding table
  table_at i h = get_or-tab bits_at_is 0 count i h ∙ ap bits_at_is (zero-add i)

  table_small : (i : ℕ) → i < count → get_or table i 0 < 65536
  unfolding bits_at_is number
  table_small i h = rw (table_at i h) (omega (arith, small (2 * i), small (suc (2 * i))))

  table_is : unpacked1000 (bytes l) count ≡ map (word_of 65536) table
  unfolding unpacked1000 table bits_at_is
  table_is = refl

  length_table : length (unpacked1000 (bytes l) count) ≡ count
  length_table = ap length table_is ∙ length-map table (word_of 65536) ∙ table_long

  held1000 : (i : ℕ) → i < count → holds 65536 (get_or (unpacked1000 (bytes l) count) i (pos 0)) ≡ true
  held1000 i h = ap (λ (ws : List ℤ). holds 65536 (get_or ws i (pos 0))) table_is ∙ held_again 65536 table i refl (omega (arith, table_long)) (table_small i h)

  two_again : (i : ℕ) → i < count → digits 2 (bits_at 65536 (unpacked1000 (bytes l) count) i) ≡ bytes l (2 * i) ∷ bytes l (2 * i + 1) ∷ []
  unfolding digits bits_at_is number
  two_again i h =
      let e : bits_at 65536 (unpacked1000 (bytes l) count) i ≡ bits_at_is i =
      ap (λ (ws : List ℤ). bits_at 65536 ws i) table_is ∙ bits_again 65536 table i refl (omega (arith, table_long)) (table_small i h) ∙ table_at i h in
      let x = small (2 * i) in
      let y = small (suc (2 * i)) in
      let low : bits_at_is i % 256 ≡ bytes l (2 * i) = omega arith in
      let rest : bits_at_is i / 256 ≡ bytes l (suc (2 * i)) = omega arith in
      let high : bits_at_is i / 256 % 256 ≡ bytes l (suc (2 * i)) = rw rest (omega arith) in
      rw (e, low, high, add-one (2 * i)) refl

  pack1000 : packed1000 (unpacked1000 (bytes l) count) ≡ l
  unfolding packed1000
  pack1000 =
      ap (λ (m : ℕ). parts (λ i. digits 2 (bits_at 65536 (unpacked1000 (bytes l) count) i)) 0 m) length_table
      ∙ parts_cong _ (λ i. bytes l (2 * i) ∷ bytes l (2 * i + 1) ∷ []) count two_again ∙ parts_pairs (bytes l) 0 count
      ∙ ap (tab (bytes l) 0) (sym n) ∙ tab_is (bytes l) 0 l (λ k p. ap (bytes l) (zero-add k))

halves : (n : ℕ) → eqb (n % 2) 0 ≡ true → n ≡ 2 * (n / 2)
halves n e = let z : n % 2 ≡ 0 = eqb-true (n % 2) 0 e in omega arith

pub length-packed : (sampler : Sampler) (words : List ℤ) → is_whole sampler (length words) ≡ true → length (packed sampler words) ≡ data_size sampler (length words)
length-packed S900 words w = let h = halves (length words) w in length900 words (length words / 2) h ∙ omega arith
length-packed S1000 words w = length1000 words

pub unpacked-packed : (sampler : Sampler) (words : List ℤ) → is_whole sampler (length words) ≡ true → Held sampler words → unpacked sampler (bytes (packed sampler words)) (length words) ≡ words
unpacked-packed S900 words w held = unpack900 words (length words / 2) (halves (length words) w) held
unpacked-packed S1000 words w held = unpack1000 words held

module _ (l : List ℕ) (small : Bytes l) where
  pub length-unpacked : (sampler : Sampler) (count : ℕ) → is_whole sampler count ≡ true → length l ≡ data_size sampler count → length (unpacked sampler (bytes l) count) ≡ count
  length-unpacked S900 count w n =
      let h = halves count w in subst (λ (m : ℕ). length (unpacked900 (bytes l) m) ≡ m) (sym h) (words_long l (count / 2) (omega arith) small)
  length-unpacked S1000 count w n = length_table l count n small

  pub held_unpacked : (sampler : Sampler) (count : ℕ) → is_whole sampler count ≡ true → length l ≡ data_size sampler count
      → (i : ℕ) → i < count → holds (bits_size sampler) (get_or (unpacked sampler (bytes l) count) i (pos 0)) ≡ true
  held_unpacked S900 count w n =
      let h = halves count w in
      subst (λ (m : ℕ). (i : ℕ) → i < m → holds 4096 (get_or (unpacked900 (bytes l) m) i (pos 0)) ≡ true) (sym h) (held900 l (count / 2) (omega arith) small)
  held_unpacked S1000 count w n = held1000 l count n small

  pub packed-unpacked : (sampler : Sampler) (count : ℕ) → is_whole sampler count ≡ true → length l ≡ data_size sampler count → packed sampler (unpacked sampler (bytes l) count) ≡ l
  packed-unpacked S900 count w n =
      let h = halves count w in subst (λ (m : ℕ). packed900 (unpacked900 (bytes l) m) ≡ l) (sym h) (pack900 l (count / 2) (omega arith) small)
  packed-unpacked S1000 count w n = pack1000 l count n small

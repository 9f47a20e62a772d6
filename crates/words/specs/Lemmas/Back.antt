-- One word there and back: its bits stand for it where they hold it, and the word of some bits has those bits and is held.
-- One law each for every size, by the half that the bits lie in. Assumes nothing.
use Rattle.std.specs.Prelude.{◌≡◌, refl, Bool, true, false, List, [], ◌∷◌, map, ℕ, zero, suc, ◌-◌, ◌/◌, ◌%◌, ◌≤◌, ◌<◌, ltb, ℤ, pos, negsuc, length, get_or}
use Rattle.std.proofs.Common.{ap, ◌∙◌, zero-add, mod-eq_of_lt, mod-lt, arith, ext_get_or, lt-ltb, le-ltb, ltb-true, ltb-false}
use Rattle.std.proofs.lemmas.List.{length-map}
use Rattle.laws.specs.Reader.{tab}
use Rattle.laws.specs.Lemmas.Reader.{length-tab, get_or-tab}
use Rattle.words.specs.Words.{bits_of, word_of, holds, bits_at}

word_low : (size bits : ℕ) → bits < size / 2 → word_of size bits ≡ pos bits
unfolding word_of
word_low size bits h = rw (lt-ltb bits (size / 2) h, word_of) refl

word-high : (size bits : ℕ) → size / 2 ≤ bits → word_of size bits ≡ negsuc (size - 1 - bits)
unfolding word_of
word-high size bits h = rw (le-ltb bits (size / 2) h, word_of) refl

pub bits_small : (size : ℕ) (w : ℤ) → 0 < size → bits_of size w < size
bits_small size (pos n) h = mod-lt n h
bits_small size (negsuc n) h = omega arith

pub word_bits : (size : ℕ) (w : ℤ) → holds size w ≡ true → word_of size (bits_of size w) ≡ w
word_bits size (pos n) h =
    let k : n < size / 2 = ltb-true n (size / 2) h in
    rw (mod-eq_of_lt {n = n} {m = size} (omega arith)) (word_low size n k)
word_bits size (negsuc n) h =
    let k : n < size / 2 = ltb-true n (size / 2) h in
    let z : size - 1 - (size - 1 - n) ≡ n = omega arith in
    rw (mod-eq_of_lt {n = n} {m = size} (omega arith)) (word-high size (size - 1 - n) (omega arith) ∙ ap negsuc z)

-- the bits of a word that was made of bits, of which there are two halves
module _ (size bits : ℕ) (even : size % 2 ≡ 0) (h : bits < size) where
  by_half : (P : ℤ → Type 0) → (bits < size / 2 → P (pos bits)) → (size / 2 ≤ bits → P (negsuc (size - 1 - bits))) → P (word_of size bits)
  by_half P low high = go (ltb bits (size / 2)) refl
    where
      go : (t : Bool) → ltb bits (size / 2) ≡ t → P (word_of size bits)
      go true e = let k : bits < size / 2 = ltb-true bits (size / 2) e in rw (word_low size bits k) (low k)
      go false e = let k : size / 2 ≤ bits = ltb-false bits (size / 2) e in rw (word-high size bits k) (high k)

  pub bits_word : bits_of size (word_of size bits) ≡ bits
  bits_word =
      by_half (λ w. bits_of size w ≡ bits)
      (λ k. mod-eq_of_lt {n = bits} {m = size} h)
      (λ k. rw (mod-eq_of_lt {n = size - 1 - bits} {m = size} (omega arith)) (omega arith))

  pub word_held : holds size (word_of size bits) ≡ true
  word_held =
      by_half (λ w. holds size w ≡ true)
      (λ k. lt-ltb bits (size / 2) k)
      (λ k. lt-ltb (size - 1 - bits) (size / 2) (omega arith))

-- ---- lists of words

get_or-map_in : (g : ℕ → ℤ) (l : List ℕ) (i : ℕ) → i < length l → get_or (map g l) i (pos 0) ≡ g (get_or l i 0)
get_or-map_in g [] i h = absurd (omega arith)
get_or-map_in g (x ∷ l) zero h = refl
get_or-map_in g (x ∷ l) (suc i) h = get_or-map_in g l i (omega arith)

-- words that bits hold, from their bits
pub words_again : (size : ℕ) (words : List ℤ) → ((i : ℕ) → i < length words → holds size (get_or words i (pos 0)) ≡ true) → map (word_of size) (tab (bits_at size words) 0 (length words)) ≡ words
words_again size words held =
    let n = length words in
    let t = tab (bits_at size words) 0 n in
    let e : length (map (word_of size) t) ≡ n = length-map t (word_of size) ∙ length-tab (bits_at size words) 0 n in
    ext_get_or (pos 0) (map (word_of size) t) words e
    (λ i h.
    let k : i < n = omega arith in
    get_or-map_in (word_of size) t i (omega (arith, length-tab (bits_at size words) 0 n))
    ∙ ap (word_of size) (get_or-tab (bits_at size words) 0 n i k ∙ ap (bits_at size words) (zero-add i)) ∙ word_bits size (get_or words i (pos 0)) (held i k))

-- the bits of words that were made of bits
pub bits_again : (size : ℕ) (l : List ℕ) (i : ℕ) → size % 2 ≡ 0 → i < length l → get_or l i 0 < size → bits_at size (map (word_of size) l) i ≡ get_or l i 0
bits_again size l i even h k = ap (bits_of size) (get_or-map_in (word_of size) l i h) ∙ bits_word size (get_or l i 0) even k

pub held_again : (size : ℕ) (l : List ℕ) (i : ℕ) → size % 2 ≡ 0 → i < length l → get_or l i 0 < size → holds size (get_or (map (word_of size) l) i (pos 0)) ≡ true
held_again size l i even h k = ap (holds size) (get_or-map_in (word_of size) l i h) ∙ word_held size (get_or l i 0) even k

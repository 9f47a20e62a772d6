-- Words of samples and the bytes that hold those of the S900 (document 01, "The files"): two's complement, and an even number of words in halves.
-- Bits as a number stand between words and bytes. Assumes nothing.
use Rattle.std.specs.Prelude.{Bool, List, [], ◌∷◌, ◌++◌, map, ℕ, ◌+◌, ◌-◌, ◌*◌, ◌/◌, ◌%◌, ltb, ℤ, pos, negsuc, length, get_or}
use Rattle.laws.specs.Truth.{pick}
use Rattle.laws.specs.Reader.{tab}
use Rattle.laws.specs.Scan.{over}

-- The parts of the n numbers from i on, one after another.
unfoldable pub parts : {A : Type 0} → (ℕ → List A) → ℕ → ℕ → List A
unfolding over
parts f i n = over (λ k rest. f k ++ rest) [] i n

-- A word's bits as a number below `size`, in two's complement.
abbrev pub bits_of : ℕ → ℤ → ℕ
bits_of size (pos n) = n % size
bits_of size (negsuc n) = size - 1 - n % size

-- The word that bits below `size` stand for: negative from half of it on.
unfoldable pub word_of : ℕ → ℕ → ℤ
word_of size bits = pick (ltb bits (size / 2)) (pos bits) (negsuc (size - 1 - bits))

-- Whether bits below `size` hold a word: at 4,096 those from -2,048 to 2,047.
abbrev pub holds : ℕ → ℤ → Bool
holds size (pos n) = ltb n (size / 2)
holds size (negsuc n) = ltb n (size / 2)

-- The bits of word i.
abbrev pub bits_at : ℕ → List ℤ → ℕ → ℕ
bits_at size words i = bits_of size (get_or words i (pos 0))

-- ---- S900 data

-- The low four bits of word i of the first half above those of word i of the second, which starts at `half`.
abbrev pub low_bits : List ℤ → ℕ → ℕ → ℕ
low_bits words half i = 16 * (bits_at 4096 words i % 16) + bits_at 4096 words (half + i) % 16

-- The upper eight bits of word i.
abbrev pub high_bits : List ℤ → ℕ → ℕ
high_bits words i = bits_at 4096 words i / 16

-- Bytes 2i and 2i + 1, and byte i after all pairs.
abbrev pub pair_at : List ℤ → ℕ → ℕ → List ℕ
pair_at words half i = low_bits words half i ∷ high_bits words i ∷ []

abbrev pub upper_bits : List ℤ → ℕ → ℕ → ℕ
upper_bits words half i = high_bits words (half + i)

-- The data of words: a pair of bytes for each word of the first half, then one byte for each of the second.
unfoldable pub packed900 : List ℤ → List ℕ
unfolding parts tab
packed900 words = let half = length words / 2 in parts (pair_at words half) 0 half ++ tab (upper_bits words half) 0 half

-- The bits of word i of the first half, and of word i of the second.
abbrev pub first_bits : (ℕ → ℕ) → ℕ → ℕ
first_bits byte i = 16 * byte (2 * i + 1) + byte (2 * i) / 16

abbrev pub second_bits : (ℕ → ℕ) → ℕ → ℕ → ℕ
second_bits byte half i = 16 * byte (2 * half + i) + byte (2 * i) % 16

-- The words of data: the first half, then the second.
unfoldable pub unpacked900 : (ℕ → ℕ) → ℕ → List ℤ
unfolding word_of tab
unpacked900 byte count =
    let half = count / 2 in
    map (word_of 4096) (tab (first_bits byte) 0 half ++ tab (second_bits byte half) 0 half)

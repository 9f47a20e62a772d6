-- S900 and S1000 sample files (document 01, "The files"): their parts, what is refused and where, and what unpacking and packing come to.
-- One definition serves both samplers; they differ in sizes, offsets, tables and the form of the data. Assumes nothing.
use Rattle.std.specs.Prelude.{Bool, true, not, List, ◌++◌, map, ℕ, ◌+◌, ◌*◌, ◌/◌, ◌%◌, ◌<◌, ltb, eqb, ℤ, pos, length, take, drop, get_or, ◌≡◌, Ok, Some, None}
use Rattle.std.proofs.lemmas.List.Edits.{sets}
use Rattle.laws.specs.Truth.{pick, both}
use Rattle.laws.specs.Scan.{lowest, Lowest}
use Rattle.laws.specs.Splice.{splice}
use Rattle.laws.specs.Reader.{bytes, tab}
use Rattle.blocks.specs.Numbers.{number, digits}
use Rattle.rows.specs.Rows.{rows_fault}
use Rattle.headers.specs.Tables as tables
use Rattle.headers.specs.Tables.{rows_of}
use Rattle.headers.specs.declared.Table.{Table}
use Rattle.headers.specs.declared.Table.TheVariants.{Sample900, Sample1000}
use Rattle.laws.specs.Refusals.{Filled, filled, unless}
use Rattle.words.specs.Words.{parts, word_of, holds, bits_at, packed900, unpacked900}
use Rattle.samples.specs.declared.Sampler.{Sampler}
use Rattle.samples.specs.declared.Sampler.TheVariants.{S900, S1000}

-- ---- the parts of a file

-- The table of the header's rules, its size, and the offset of the number of words in it.
abbrev pub table_of : Sampler → Table
table_of S900 = Sample900
table_of S1000 = Sample1000

abbrev pub header_size : Sampler → ℕ
header_size sampler = tables.header_size (table_of sampler)

abbrev pub count_offset : Sampler → ℕ
count_offset S900 = 16
count_offset S1000 = 26

-- The bytes of so many words.
abbrev pub data_size : Sampler → ℕ → ℕ
data_size S900 count = count + count / 2
data_size S1000 count = 2 * count

-- Whether a sampler has so many words: the S900 an even number.
abbrev pub is_whole : Sampler → ℕ → Bool
is_whole S900 count = eqb (count % 2) 0
is_whole S1000 count = true

-- The number of words that a header gives.
abbrev pub count_in : Sampler → List ℕ → ℕ
count_in sampler header = number 4 (bytes header) (count_offset sampler)

-- The bytes of a file of so many words.
abbrev pub file_size : Sampler → ℕ → ℕ
file_size sampler count = header_size sampler + data_size sampler count

-- ---- the data

-- S1000 data: two bytes for each word; and their words.
unfoldable pub packed1000 : List ℤ → List ℕ
unfolding parts digits
packed1000 words = parts (λ i. digits 2 (bits_at 65536 words i)) 0 (length words)

unfoldable pub unpacked1000 : (ℕ → ℕ) → ℕ → List ℤ
unfolding word_of tab number
unpacked1000 byte count = map (word_of 65536) (tab (λ i. number 2 byte (2 * i)) 0 count)

-- The data of words, and the words of data.
abbrev pub packed : Sampler → List ℤ → List ℕ
packed S900 words = packed900 words
packed S1000 words = packed1000 words

abbrev pub unpacked : Sampler → (ℕ → ℕ) → ℕ → List ℤ
unpacked S900 byte count = unpacked900 byte count
unpacked S1000 byte count = unpacked1000 byte count

-- The header and the words of a file.
abbrev pub header_of : Sampler → List ℕ → List ℕ
header_of sampler file = take (header_size sampler) file

abbrev pub words_of : Sampler → List ℕ → List ℤ
words_of sampler file = unpacked sampler (bytes (drop (header_size sampler) file)) (count_in sampler (header_of sampler file))

-- ---- refusals, and their places (document 01, "The numbers given back")

-- Refusal 18 in a header, by whether its number of words is right: at that number, else at the lowest offset whose rule fails.
unfoldable pub head_fault : Sampler → List ℕ → Bool → Lowest
head_fault sampler header right = pick right (rows_fault header 0 (rows_of (table_of sampler))) (Some (count_offset sampler))

-- In a file: at 0 where it is shorter than its header; its number of words is right by the file's length.
unfoldable pub file_fault : Sampler → List ℕ → Lowest
unfolding head_fault
file_fault sampler file =
    let count = count_in sampler (header_of sampler file) in
    pick (ltb (length file) (header_size sampler)) (Some 0)
    (head_fault sampler (header_of sampler file) (both (is_whole sampler count) (eqb (length file) (file_size sampler count))))

-- In a header to pack: at 0 where it isn't of its exact size; its number of words is right by the words given.
unfoldable pub header_fault : Sampler → List ℕ → ℕ → Lowest
unfolding head_fault
header_fault sampler header given =
    let count = count_in sampler header in
    pick (eqb (length header) (header_size sampler)) (head_fault sampler header (both (is_whole sampler count) (eqb count given))) (Some 0)

-- Refusal 19: word i, which the S900's 12 bits hold or do not.
abbrev pub is_short : List ℤ → ℕ → Bool
is_short words i = holds 4096 (get_or words i (pos 0))

abbrev pub is_outside : List ℤ → ℕ → Bool
is_outside words i = not (is_short words i)

abbrev pub range_fault : Sampler → List ℤ → Lowest
range_fault S900 words = lowest (is_outside words) 0 (length words)
range_fault S1000 words = None

-- Refusal 21: an output that has less room than is due.
abbrev pub room_fault : ℕ → ℕ → Lowest
room_fault room due = pick (ltb room due) (Some 0) None

-- ---- the calls

-- Unpacking: refusals 18 and 21; else the words, and what lies past them is kept.
unfoldable pub unpack_of : Sampler → List ℕ → List ℤ → Filled ℤ
unfolding file_fault
unpack_of sampler file words =
    let count = count_in sampler (header_of sampler file) in
    unless 18 (file_fault sampler file) words
    (unless 21 (room_fault (length words) count) words
    (filled (Ok count) (sets words 0 (words_of sampler file))))

-- Packing: refusals 18, 19 and 21; else header and data, and what lies past them is kept.
unfoldable pub pack_of : Sampler → List ℕ → List ℤ → List ℕ → Filled ℕ
unfolding header_fault
pack_of sampler header words output =
    let due = file_size sampler (length words) in
    unless 18 (header_fault sampler header (length words)) output
    (unless 19 (range_fault sampler words) output
    (unless 21 (room_fault (length output) due) output
    (filled (Ok due) (splice output 0 (header ++ packed sampler words)))))

-- ---- what unpacking and packing need to undo each other

-- The first number that a sampler's bits do not hold.
abbrev pub bits_size : Sampler → ℕ
bits_size S900 = 4096
bits_size S1000 = 65536

-- The sampler's bits hold every word; every byte is one.
abbrev pub Held : Sampler → List ℤ → Type 0
Held sampler words = (i : ℕ) → i < length words → holds (bits_size sampler) (get_or words i (pos 0)) ≡ true

abbrev pub Bytes : List ℕ → Type 0
Bytes l = (k : ℕ) → get_or l k 0 < 256

-- The tables of the headers (source document 001, sections 3, 5 and 6), one row a line, offsets from 0: every row with a stated range, value or list of
-- named values. Tune cents, the pitch law, vel zones used, and what is internal or unused may be any bytes (document 01, "The files"). Assumes nothing.
use Rattle.std.specs.Prelude.{◌≡◌, refl, List, [], ◌∷◌, ◌++◌, ℕ, ◌-◌, ◌≤◌, take, drop}
use Rattle.std.proofs.Common.{ap, ◌∙◌, arith}
use Rattle.laws.specs.Scan.{Lowest}
use Rattle.rows.specs.Rows.{rows_fault}
use Rattle.rows.specs.declared.Row.{Row}
use Rattle.rows.specs.declared.Row.TheVariants.{Only, From, Within, OrOff, OneOf, Name, Ascii, Zeros, AllFrom, AllWithin, Word, Past, WordsWithin, AtMost}
use Rattle.headers.specs.declared.Table.{Table}
use Rattle.headers.specs.declared.Table.TheVariants.{Sample900, Sample1000, Program, Keygroup}

-- S900 sample (section 3).
unfoldable pub sample900_rows : List Row
sample900_rows =
    Ascii 0 10 ∷  -- filename
    Zeros 10 6 ∷  -- 0
    Zeros 24 2 ∷  -- 0
    OneOf 26 79 76 65 ∷  -- loop mode: O, L or A
    Zeros 27 1 ∷  -- 0
    AtMost 28 16 ∷  -- end marker, at most N at 16
    AtMost 32 28 ∷  -- start marker, at most the end at 28
    AtMost 36 28 ∷  -- loop length, at most the end at 28
    []

-- S1000 sample (section 5).
unfoldable pub sample1000_rows : List Row
sample1000_rows =
    Only 0 3 ∷  -- 3
    From 2 0 127 ∷  -- MIDI root note
    Name 3 12 ∷  -- filename
    Only 15 128 ∷  -- 128
    From 16 0 8 ∷  -- number of active loops
    From 19 0 3 ∷  -- loop mode
    Within 20 50 ∷  -- cents tune
    Within 21 50 ∷  -- semi tune
    AtMost 30 34 ∷  -- start marker, at most the end at 34
    AtMost 34 26 ∷  -- end marker, at most N at 26
    []

-- S1000 program (section 6).
unfoldable pub program_rows : List Row
program_rows =
    Only 0 1 ∷  -- program ID
    Word 1 150 ∷  -- first keygroup address
    Name 3 12 ∷  -- program name
    From 15 0 127 ∷  -- MIDI program number
    OrOff 16 15 ∷  -- MIDI channel, 255 is OMNI
    From 17 1 16 ∷  -- polyphony
    From 18 0 3 ∷  -- priority
    From 19 24 127 ∷  -- low key
    From 20 24 127 ∷  -- high key
    Within 21 2 ∷  -- octave shift
    OrOff 22 7 ∷  -- aux output select, 255 is OFF
    From 23 0 99 ∷  -- mix output level
    Within 24 50 ∷  -- mix output pan
    From 25 0 99 ∷  -- volume
    Within 26 50 ∷  -- vel>volume
    Within 27 50 ∷  -- key>volume
    Within 28 50 ∷  -- pres>volume
    From 29 0 99 ∷  -- pan lfo rate
    From 30 0 99 ∷  -- pan lfo depth
    From 31 0 99 ∷  -- pan lfo delay
    Within 32 50 ∷  -- key>pan
    From 33 0 99 ∷  -- lfo rate
    From 34 0 99 ∷  -- lfo depth
    From 35 0 99 ∷  -- lfo delay
    From 36 0 99 ∷  -- mod>lfo depth
    From 37 0 99 ∷  -- pres>lfo depth
    From 38 0 99 ∷  -- vel>lfo depth
    From 39 0 12 ∷  -- bend>pitch
    Within 40 12 ∷  -- pres>pitch
    From 41 0 1 ∷  -- keygroup crossfade
    From 42 1 99 ∷  -- number of keygroups
    AllWithin 44 12 25 ∷  -- key temperament
    From 56 0 1 ∷  -- fx output
    Within 57 50 ∷  -- mod>pan
    From 58 0 1 ∷  -- stereo coherence
    From 59 0 1 ∷  -- lfo desync
    From 61 0 1 ∷  -- voice re-assign
    From 62 0 99 ∷  -- softped>volume
    From 63 0 99 ∷  -- softped>attack
    From 64 0 99 ∷  -- softped>filt
    Within 66 50 ∷  -- tune semitones
    Within 67 50 ∷  -- key>lfo rate
    Within 68 50 ∷  -- key>lfo depth
    Within 69 50 ∷  -- key>lfo delay
    From 70 0 2 ∷  -- voice output scale
    From 71 0 1 ∷  -- stereo output scale
    []

-- S1000 keygroup (section 6).
unfoldable pub keygroup_rows : List Row
keygroup_rows =
    Only 0 2 ∷  -- keygroup ID
    Past 1 150 ∷  -- next keygroup address
    From 3 24 127 ∷  -- low key
    From 4 24 127 ∷  -- high key
    Within 6 50 ∷  -- tune semitones
    From 7 0 99 ∷  -- filter
    From 8 0 24 ∷  -- key>filter
    Within 9 50 ∷  -- vel>filt
    Within 10 50 ∷  -- pres>filt
    Within 11 50 ∷  -- env2>filt
    From 12 0 99 ∷  -- env1 attack
    From 13 0 99 ∷  -- env1 decay
    From 14 0 99 ∷  -- env1 sustain
    From 15 0 99 ∷  -- env1 release
    Within 16 50 ∷  -- env1 vel>attack
    Within 17 50 ∷  -- env1 vel>release
    Within 18 50 ∷  -- env1 offvel>release
    Within 19 50 ∷  -- env1 key>dec&rel
    From 20 0 99 ∷  -- env2 attack
    From 21 0 99 ∷  -- env2 decay
    From 22 0 99 ∷  -- env2 sustain
    From 23 0 99 ∷  -- env2 release
    Within 24 50 ∷  -- env2 vel>attack
    Within 25 50 ∷  -- env2 vel>release
    Within 26 50 ∷  -- env2 offvel>release
    Within 27 50 ∷  -- env2 key>dec&rel
    Within 28 50 ∷  -- vel>env2>filter
    Within 29 50 ∷  -- env2>pitch
    From 30 0 1 ∷  -- vel zone crossfade
    Name 34 12 ∷  -- sample 1 name
    From 46 0 127 ∷  -- sample 1 low vel
    From 47 0 127 ∷  -- sample 1 high vel
    Within 49 50 ∷  -- sample 1 tune semitones
    Within 50 50 ∷  -- sample 1 loudness
    Within 51 50 ∷  -- sample 1 filter
    Within 52 50 ∷  -- sample 1 pan
    From 53 0 4 ∷  -- sample 1 loop mode
    Name 58 12 ∷  -- sample 2 name
    From 70 0 127 ∷  -- sample 2 low vel
    From 71 0 127 ∷  -- sample 2 high vel
    Within 73 50 ∷  -- sample 2 tune semitones
    Within 74 50 ∷  -- sample 2 loudness
    Within 75 50 ∷  -- sample 2 filter
    Within 76 50 ∷  -- sample 2 pan
    From 77 0 4 ∷  -- sample 2 loop mode
    Name 82 12 ∷  -- sample 3 name
    From 94 0 127 ∷  -- sample 3 low vel
    From 95 0 127 ∷  -- sample 3 high vel
    Within 97 50 ∷  -- sample 3 tune semitones
    Within 98 50 ∷  -- sample 3 loudness
    Within 99 50 ∷  -- sample 3 filter
    Within 100 50 ∷  -- sample 3 pan
    From 101 0 4 ∷  -- sample 3 loop mode
    Name 106 12 ∷  -- sample 4 name
    From 118 0 127 ∷  -- sample 4 low vel
    From 119 0 127 ∷  -- sample 4 high vel
    Within 121 50 ∷  -- sample 4 tune semitones
    Within 122 50 ∷  -- sample 4 loudness
    Within 123 50 ∷  -- sample 4 filter
    Within 124 50 ∷  -- sample 4 pan
    From 125 0 4 ∷  -- sample 4 loop mode
    Within 130 50 ∷  -- beat detune
    From 131 0 1 ∷  -- hold attack until loop
    AllFrom 132 4 0 1 ∷  -- sample 1-4 key tracking
    AllFrom 136 4 0 7 ∷  -- sample 1-4 aux out offset
    WordsWithin 140 4 9999 ∷  -- vel>sample start
    Within 148 50 ∷  -- vel>volume offset
    []

unfoldable pub rows_of : Table → List Row
unfolding sample900_rows sample1000_rows program_rows keygroup_rows
rows_of Sample900 = sample900_rows
rows_of Sample1000 = sample1000_rows
rows_of Program = program_rows
rows_of Keygroup = keygroup_rows

-- The bytes of a header.
abbrev pub header_size : Table → ℕ
header_size Sample900 = 60
header_size Sample1000 = 150
header_size Program = 150
header_size Keygroup = 150

-- ---- the tables one after another

unfoldable pub all_rows : List Row
unfolding sample900_rows sample1000_rows program_rows keygroup_rows
all_rows = sample900_rows ++ (sample1000_rows ++ (program_rows ++ keygroup_rows))

-- where a table lies among all rows: from the first on, below the end
pub record Part : Type 0 where
  pub first : ℕ
  pub end : ℕ

abbrev pub part_of : Table → Part
part_of Sample900 = record { first = 0; end = 8 }
part_of Sample1000 = record { first = 8; end = 18 }
part_of Program = record { first = 18; end = 64 }
part_of Keygroup = record { first = 64; end = 131 }

-- a table's part of all rows is the table
part-rows : (table : Table) → take ((part_of table).end - (part_of table).first) (drop (part_of table).first all_rows) ≡ rows_of table
unfolding all_rows rows_of
part-rows Sample900 = refl
part-rows Sample1000 = refl
part-rows Program = refl
part-rows Keygroup = refl

within_all : (table : Table) → ((part_of table).first ≤ (part_of table).end) × ((part_of table).end ≤ 131)
within_all Sample900 = (omega arith, omega arith)
within_all Sample1000 = (omega arith, omega arith)
within_all Program = (omega arith, omega arith)
within_all Keygroup = (omega arith, omega arith)

module _ (table : Table) {part : Part} (e : part ≡ part_of table) where
  pub part-within : (part.first ≤ part.end) × (part.end ≤ 131)
  part-within = rw e (within_all table)

  pub part_fault_is : (header : List ℕ) (base : ℕ) {f : Lowest} → f ≡ rows_fault header base (take (part.end - part.first) (drop part.first all_rows))
      → f ≡ rows_fault header base (rows_of table)
  part_fault_is header base h =
      h ∙ ap (λ (p : Part). rows_fault header base (take (p.end - p.first) (drop p.first all_rows))) e ∙ ap (rows_fault header base) (part-rows table)

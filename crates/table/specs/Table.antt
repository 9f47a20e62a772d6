-- Document 01's worked disks and words, P1 to P13, with the end mark of document 02's request one; that request's old mark, request two's names in small
-- letters, request five's S3000 disks, and request six's samples and programs of one name; one table, each row about real bytes.
-- The checker computes each row on the bytes that are set; one lemma takes it to the list. Assumes nothing.
use Rattle.std.specs.Prelude.{◌≡◌, true, ℕ, ◌-◌, ℤ, pos, negsuc, length, replicate, Err}
use mathlib.Core.List.{List, [], ◌∷◌, ◌++◌, map}
use Rattle.laws.specs.Reader.{bytes}
use Rattle.layout.specs.declared.Kind.TheVariants.{S900, S1000, S3000}
use Rattle.layout.specs.declared.Density.TheVariants.{Low, High}
use Rattle.layout.specs.declared.Layout.{Layout}
use Rattle.layout.specs.Layouts.{layout_of}
use Rattle.map.specs.Map.{map_at}
use Rattle.record.specs.Record.{Call, list, find, page, put, remove, Answer, refused, entry, valued, paged, done}
use Rattle.laws.specs.Refusals.{refusal_at}
use Rattle.rules.specs.Check.{check_of, call_of, Checked, accepting}
use Rattle.words.specs.Words.{packed900}
use Rattle.table.specs.Sparse.{Sparse, zeros, byte, list_of, value, identity, typed, blank, file}

-- Map values that an image holds.
abbrev pub MapHolds : List ℕ → List (ℕ × ℕ) → Type 0
MapHolds img [] = Unit {0}
MapHolds img (v ∷ vs) = (map_at (bytes img) v.0 ≡ v.1) × MapHolds img vs

-- What is seen of calls, each made on the image that the one before it left: something of their answers and outputs.
abbrev pub seen_of : {X : Type 0} → (Answer → List ℕ → X) → List ℕ → List Call → List X
seen_of see img [] = []
seen_of see img (c ∷ cs) = see (call_of img c).answer (call_of img c).output ∷ seen_of see (call_of img c).state cs

-- A call with its answer and its output.
abbrev pub Served : Type 0
Served = Call × (Answer × List ℕ)

-- A row: the check of an image of so many bytes; the data of words; the map after a call on such an image; the answers of calls on it; or their answers and
-- outputs.
pub data Row : Type 0 where
  checks : ℕ → Sparse → Checked → Row
  packs : List ℤ → List ℕ → Row
  leaves : ℕ → Sparse → Call → List (ℕ × ℕ) → Row
  answers : ℕ → Sparse → List Call → List Answer → Row
  serves : ℕ → Sparse → List Served → Row

abbrev pub Holds : Row → Type 0
Holds (checks n s answer) = check_of (list_of n s) ≡ answer
Holds (packs words packed) = packed900 words ≡ packed
Holds (leaves n s call values) = MapHolds (call_of (list_of n s) call).state values
Holds (answers n s calls told) = seen_of (λ answer output. answer) (list_of n s) calls ≡ told
Holds (serves n s served) = seen_of (λ answer output. (answer, output)) (list_of n s) (map (λ t. t.0) served) ≡ map (λ t. t.1) served

abbrev pub All : List Row → Type 0
All [] = Unit {0}
All (r ∷ rs) = Holds r × All rs

-- The disk where no kind is said, the S3000 disk, and the S900 disk of low density.
abbrev high : Layout
high = layout_of S1000 High

abbrev wide : Layout
wide = layout_of S3000 High

abbrev pub low : Layout
low = layout_of S900 Low

abbrev pub name : List ℕ
name = replicate 10 65

-- A name of so many letters: spaces at its end.
abbrev spaced : ℕ → List ℕ → List ℕ
spaced letters name = name ++ replicate (letters - length name) 32

-- "Bass c2", "BASS C2", "bAsS C2"; "Bass", "BASS".
abbrev bass_c2 : List ℕ
bass_c2 = spaced 12 (66 ∷ 97 ∷ 115 ∷ 115 ∷ 32 ∷ 99 ∷ 50 ∷ [])

abbrev BASS_C2 : List ℕ
BASS_C2 = spaced 12 (66 ∷ 65 ∷ 83 ∷ 83 ∷ 32 ∷ 67 ∷ 50 ∷ [])

abbrev b_as_s_C2 : List ℕ
b_as_s_C2 = spaced 12 (98 ∷ 65 ∷ 115 ∷ 83 ∷ 32 ∷ 67 ∷ 50 ∷ [])

abbrev bass : List ℕ
bass = spaced 10 (66 ∷ 97 ∷ 115 ∷ 115 ∷ [])

abbrev BASS : List ℕ
BASS = spaced 10 (66 ∷ 65 ∷ 83 ∷ 83 ∷ [])

-- "PIANO" of so many letters.
abbrev PIANO : ℕ → List ℕ
PIANO letters = spaced letters (80 ∷ 73 ∷ 65 ∷ 78 ∷ 79 ∷ [])

-- A call without an output, and a page.
abbrev asked : Call → Answer → Served
asked call answer = (call, (answer, []))

abbrev read : Call → Answer → List ℕ → Served
read call answer output = (call, (answer, output))

-- PIANO as a sample and as a program: each is put, found, paged and in the way of a put by its own type; no other type has the name; each is removed alone.
abbrev pianos : ℕ → ℕ → ℕ → ℕ → ℕ → List Served
pianos letters sample program third illegal =
    let name = PIANO letters in
    asked (put name sample (7 ∷ 8 ∷ 9 ∷ [])) (valued 0)
    ∷ asked (put name program (5 ∷ 6 ∷ [])) (valued 1)
    ∷ asked (find name sample) (valued 0)
    ∷ asked (find name program) (valued 1)
    ∷ read (page 0 0 (1 ∷ 1 ∷ 1 ∷ 1 ∷ [])) (paged 3 true) (7 ∷ 8 ∷ 9 ∷ 1 ∷ [])
    ∷ read (page 1 0 (1 ∷ 1 ∷ 1 ∷ 1 ∷ [])) (paged 2 true) (5 ∷ 6 ∷ 1 ∷ 1 ∷ [])
    ∷ asked (put name sample (4 ∷ [])) (refused 12 0)
    ∷ asked (put name program (4 ∷ [])) (refused 12 1)
    ∷ asked (find name third) (refused 10 0)
    ∷ asked (find name illegal) (refused 11 0)
    ∷ asked (remove name third) (refused 10 0)
    ∷ asked (remove name illegal) (refused 11 0)
    ∷ asked (remove name sample) done
    ∷ asked (find name sample) (refused 10 0)
    ∷ asked (find name program) (valued 1)
    ∷ read (page 1 0 (1 ∷ 1 ∷ 1 ∷ 1 ∷ [])) (paged 2 true) (5 ∷ 6 ∷ 1 ∷ 1 ∷ [])
    ∷ asked (put name sample (3 ∷ [])) (valued 0)
    ∷ asked (remove name program) done
    ∷ asked (find name program) (refused 10 0)
    ∷ read (page 0 0 (1 ∷ 1 ∷ [])) (paged 1 true) (3 ∷ 1 ∷ [])
    ∷ []

-- Request six: PIANO as a sample and as a program on an S900, an S1000 and an S3000 disk.
abbrev pub six_calls : List Row
six_calls =
    serves 819200 zeros (pianos 10 83 80 65 115)
    ∷ serves 819200 (blank (layout_of S1000 Low)) (pianos 12 115 112 97 83)
    ∷ serves 1638400 (blank wide) (pianos 12 211 208 193 83)
    ∷ []

-- One name in two types on each kind; and twice in one, with another type between.
abbrev pub six_checks : List Row
six_checks =
    checks 819200 (file low 0 65 1 4 (typed low 9 80 (file low 9 65 1 5 (value 4 32768 (value 5 32768 zeros))))) (accepting S900 Low 2 794)
    ∷ checks 1638400 (file high 0 11 1 5 (typed high 9 112 (file high 9 11 1 6 (value 5 49152 (value 6 49152 (blank high)))))) (accepting S1000 High 2 1593)
    ∷ checks 1638400 (file wide 0 11 1 17 (typed wide 511 208 (file wide 511 11 1 18 (value 17 49152 (value 18 49152 (blank wide)))))) (accepting S3000 High 2 1581)
    ∷ checks 1638400 (file high 0 11 1 5 (typed high 5 112 (file high 5 11 1 6 (file high 9 11 1 7 (value 5 49152 (value 6 49152 (value 7 49152 (blank high)))))))) (Err (refusal_at 5 9))
    ∷ six_calls

abbrev pub rows : List Row
rows =
    checks 819200 zeros (accepting S900 Low 0 796)  -- P1
    ∷ checks 819199 zeros (Err (refusal_at 1 0))  -- P2
    ∷ checks 1638400 (file high 0 11 1024 5 (value 5 49152 (blank high))) (accepting S1000 High 1 1594)  -- P3
    ∷ checks 1638400 (file high 0 11 1025 5 (value 5 49152 (blank high))) (Err (refusal_at 7 0))  -- P4
    ∷ checks 1638400 (file high 0 11 1024 4 (value 5 49152 (blank high))) (Err (refusal_at 6 0))  -- P5
    ∷ checks 819200 (file low 0 65 1 4 (value 4 32768 zeros)) (accepting S900 Low 1 795)  -- P6
    ∷ checks 1638400 (file high 0 11 1024 1600 (value 5 49152 (blank high))) (Err (refusal_at 6 0))  -- P7
    ∷ checks 1638400 (file high 0 11 2048 5 (value 5 5 (blank high))) (Err (refusal_at 7 0))  -- P8
    ∷ checks 1638400 (file high 0 11 1 5 (file high 1 12 1 5 (value 5 49152 (blank high)))) (Err (refusal_at 8 1))  -- P9
    ∷ checks 819200 (value 9 32768 zeros) (Err (refusal_at 9 9))  -- P10
    ∷ packs (pos 291 ∷ negsuc 0 ∷ []) (63 ∷ 18 ∷ 255 ∷ [])  -- P11
    ∷ packs (negsuc 2047 ∷ pos 2047 ∷ []) (15 ∷ 128 ∷ 127 ∷ [])  -- P12
    ∷ leaves 819200 zeros (put name 65 (replicate 1025 7)) ((4, 5) ∷ (5, 32768) ∷ [])  -- P13
    ∷ checks 1638400 (file high 0 11 1024 5 (value 5 19152 (blank high))) (Err (refusal_at 7 0))  -- request one: at the last block
    ∷ checks 1638400 (file high 0 11 1025 5 (value 5 19152 (blank high))) (Err (refusal_at 6 0))  -- before it
    ∷ checks 1638400 (value 9 19152 (blank high)) (Err (refusal_at 9 9))  -- where no chain has the block
    -- request two: on an S1000 disk spellings are one name, kept in capitals; on an S900 disk they are two
    ∷ answers 819200 (blank (layout_of S1000 Low))
    (put bass_c2 115 (7 ∷ []) ∷ list 0 ∷ find BASS_C2 115 ∷ put b_as_s_C2 115 (8 ∷ []) ∷ remove b_as_s_C2 115 ∷ find bass_c2 115 ∷ [])
    (valued 0 ∷ entry BASS_C2 115 1 ∷ valued 0 ∷ refused 12 0 ∷ done ∷ refused 10 0 ∷ [])
    ∷ answers 819200 zeros
    (put bass 83 (7 ∷ []) ∷ put BASS 83 (8 ∷ []) ∷ list 0 ∷ find BASS 83 ∷ remove BASS 83 ∷ find bass 83 ∷ [])
    (valued 0 ∷ valued 1 ∷ entry bass 83 1 ∷ valued 1 ∷ done ∷ valued 0 ∷ [])
    ∷ checks 1638400 (blank wide) (accepting S3000 High 0 1583)  -- request five: an empty disk
    ∷ checks 1638400 (file wide 0 11 1024 17 (value 17 49152 (blank wide))) (accepting S3000 High 1 1582)  -- as P3
    ∷ checks 1638400 (file wide 0 11 1025 17 (value 17 49152 (blank wide))) (Err (refusal_at 7 0))  -- as P4
    ∷ checks 1638400 (file wide 0 11 1024 16 (value 17 49152 (blank wide))) (Err (refusal_at 6 0))  -- as P5: a start of 16
    ∷ checks 1638400 (file wide 511 11 1024 17 (value 17 49152 (blank wide))) (accepting S3000 High 1 1582)  -- the last slot
    ∷ checks 1638400 (file wide 511 11 1 17 (file wide 64 12 1 17 (value 17 49152 (blank wide)))) (Err (refusal_at 8 511))  -- as P9
    ∷ checks 1638400 (identity wide 7 768 (file wide 7 11 1024 17 (value 17 49152 (blank wide)))) (Err (refusal_at 4 7))  -- a used slot with identity 0,3
    ∷ checks 1638400 (identity wide 7 768 (blank wide)) (accepting S3000 High 0 1583)  -- an empty slot with it
    ∷ checks 1638400 (value 16 0 (blank wide)) (Err (refusal_at 3 16))  -- a seventeenth system block that isn't marked
    ∷ checks 819200 (byte 16 255 (blank (layout_of S1000 Low))) (Err (refusal_at 2 0))  -- 255 on a low image, whatever the identities
    ∷ checks 1638400 (byte 16 255 (blank high)) (Err (refusal_at 3 5))  -- and on a high one: it is an S3000 disk, whose block 5 isn't marked
    -- the type is the byte itself, 83 is none; names fold, and there are 512 slots
    ∷ answers 1638400 (blank wide)
    (put bass_c2 211 (7 ∷ []) ∷ put b_as_s_C2 83 (8 ∷ []) ∷ list 0 ∷ find BASS_C2 211 ∷ put b_as_s_C2 211 (8 ∷ []) ∷ list 511 ∷ list 512 ∷ remove bass_c2 211 ∷ find bass_c2 211 ∷ [])
    (valued 0 ∷ refused 11 0 ∷ entry BASS_C2 211 1 ∷ valued 0 ∷ refused 12 0 ∷ refused 10 0 ∷ refused 10 0 ∷ done ∷ refused 10 0 ∷ [])
    ∷ six_checks

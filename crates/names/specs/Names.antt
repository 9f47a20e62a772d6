-- Names and types of a layout (document 01, "The disk"): legal bytes, as callers give them and as the disk holds them, and the
-- name's area of 16 bytes. Assumes nothing.
use Rattle.std.specs.Prelude.{Bool, List, [], ◌∷◌, ◌++◌, map, ℕ, ◌-◌, length, take, drop, replicate, eqb}
use Rattle.laws.specs.Truth.{pick, both, within}
use Rattle.laws.specs.Lists.{all_of, same}
use Rattle.layout.specs.declared.Layout.{Layout}
use Rattle.names.specs.Akaii.{akaii_of, ascii_of, has_image, image_of, capital}

-- A legal byte of a name on the disk.
unfoldable pub stored_byte : Layout → ℕ → Bool
stored_byte l c = within l.low l.high c

-- A byte of names in files, which no layout tells: an AKAII code in S1000 files, ASCII in S900 ones (document 01, "The files"). It is what
-- the disk of that sampler holds in names (`stored_s1000`, `stored_s900`).
unfoldable pub akaii_byte : ℕ → Bool
unfolding ascii_of
akaii_byte c = has_image (ascii_of c)

unfoldable pub ascii_byte : ℕ → Bool
ascii_byte a = within 32 126 a

-- A legal byte of a name as it is given, in ASCII.
unfoldable pub given_byte : Layout → ℕ → Bool
unfolding stored_byte akaii_of
given_byte l a = pick l.akaii (has_image (akaii_of a)) (stored_byte l a)

-- A name's byte to the disk and back.
unfoldable pub to_disk : Layout → ℕ → ℕ
unfolding akaii_of
to_disk l a = pick l.akaii (image_of (akaii_of a)) a

unfoldable pub to_ascii : Layout → ℕ → ℕ
unfolding ascii_of
to_ascii l c = pick l.akaii (image_of (ascii_of c)) c

-- A name's byte as it is kept: the capital where names are AKAII, else as it was given.
unfoldable pub kept_byte : Layout → ℕ → ℕ
unfolding capital
kept_byte l a = pick l.akaii (capital a) a

-- A name as it is kept (document 02, request two): two names that have the same capitals are one.
unfoldable pub capitals : Layout → List ℕ → List ℕ
unfolding kept_byte
capitals l name = map (kept_byte l) name

-- What follows the name in its area.
unfoldable pub padding : Layout → List ℕ
padding l = replicate (15 - l.letters) l.pad ++ (l.last ∷ [])

-- A name that callers may give: its exact length, and legal bytes.
unfoldable pub legal_name : Layout → List ℕ → Bool
unfolding all_of given_byte
legal_name l name = both (eqb (length name) l.letters) (all_of (given_byte l) name)

unfoldable pub legal_type : Layout → ℕ → Bool
legal_type l t = within l.least l.most t

-- A name's area on the disk.
unfoldable pub area_of : Layout → List ℕ → List ℕ
unfolding to_disk padding
area_of l name = map (to_disk l) name ++ padding l

-- A name area that the disk may hold: legal bytes, then the padding.
unfoldable pub legal_area : Layout → List ℕ → Bool
unfolding all_of same stored_byte padding
legal_area l area = both (all_of (stored_byte l) (take l.letters area)) (same (drop l.letters area) (padding l))

-- The name in an area, in ASCII.
unfoldable pub name_of : Layout → List ℕ → List ℕ
unfolding to_ascii
name_of l area = map (to_ascii l) (take l.letters area)

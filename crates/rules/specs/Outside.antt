-- Nothing else in the image changes (document 01, "Calls on an accepted disk"), call by call and on any bytes; so the volume label is kept.
-- A refused image is kept whole, but that salvage mends it; on an accepted one it is the record's claim. Assumes nothing.
use Rattle.std.specs.Prelude.{List, ℕ, Ok, Err}
use Rattle.layout.specs.Layouts.{layout_of}
use Rattle.salvage.specs.Theorems.{SalvageTouches}
use Rattle.record.specs.Record.{Call, check, list, find, page, put, remove, salvage}
use Rattle.record.specs.Outside.{Touches}
use Rattle.rules.specs.Check.{known_of, Checked, Known}

-- The bytes that the salvage run touches of an image, by what is known of it.
abbrev pub MendedBy : Known → List ℕ → ℕ → Type 0
MendedBy (Err r) img i = ⊥
MendedBy (Ok disk) img i = SalvageTouches (layout_of disk.kind disk.density) img i

-- Those that a call touches of an image that the check refuses: none, but for salvage.
abbrev pub Mends : List ℕ → Call → ℕ → Type 0
Mends img check i = ⊥
Mends img (list s) i = ⊥
Mends img (find name type) i = ⊥
Mends img (page s offset out) i = ⊥
Mends img (put name type content) i = ⊥
Mends img (remove name type) i = ⊥
Mends img (salvage report) i = MendedBy (known_of img) img i

-- The bytes that a call touches, by the check's answer.
abbrev pub TouchedBy : Checked → List ℕ → Call → ℕ → Type 0
TouchedBy (Err r) img c i = Mends img c i
TouchedBy (Ok disk) img c i = Touches (layout_of disk.kind disk.density) img c i

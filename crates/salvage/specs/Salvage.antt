-- The salvage run (document 02, request four): what it says of each slot, the image that it leaves, byte for byte, and how many map values it changes.
-- A slot is judged by the check's own tests, on the disk as it stands without the lower slots that were dropped. Assumes nothing.
use Rattle.std.specs.Prelude.{Bool, not, List, [], ◌∷◌, ◌++◌, ℕ, zero, suc, ◌-◌, ltb, eqb, drop}
use Rattle.laws.specs.Truth.{pick, both}
use Rattle.laws.specs.Scan.{count, those}
use Rattle.laws.specs.Reader.{bytes, tab}
use Rattle.layout.specs.declared.Layout.{Layout}
use Rattle.layout.specs.Layouts.{slot_offset}
use Rattle.map.specs.Map.{map_at, set_all, fault_of}
use Rattle.view.specs.Disk.{Entry, View, used}
use Rattle.view.specs.Rules.{bad_system, malformed, repeated, walk_of, broken, sharing, stray}
use Rattle.image.specs.Image.{erased, entry_at, view_of, erase_entry}

-- ---- slots, in rising order

-- A disk with other entries: its map and its blocks are as given.
abbrev pub with_entries : View → (ℕ → Entry) → View
with_entries v entry = record { map = v.map; entry = entry; block = v.block }

-- What the run says of slot s of a disk: 0 if it is empty, else the number of the first rule that it breaks, else 1. Names with types, and chains,
-- are compared with those of the used slots below it.
unfoldable pub verdict : Layout → View → ℕ → ℕ
unfolding used malformed repeated broken walk_of sharing
verdict l v s =
    pick (not (used (v.entry s))) 0
    (pick (malformed l v s) 4
    (pick (repeated l v s) 5
    (pick (broken l v s) (fault_of (walk_of l v s))
    (pick (sharing l v s) 8
    1))))

-- A rule's number drops the slot.
abbrev pub drops : ℕ → Bool
drops n = ltb 1 n

-- Entries with slot s as remove leaves it if it is dropped.
abbrev pub erased_if : Bool → ℕ → (ℕ → Entry) → ℕ → Entry
erased_if dropped s entry t = pick (both dropped (eqb t s)) (erased (entry t)) (entry t)

-- The entries once the slots below n were taken, one after another.
unfoldable pub entries_after : Layout → View → ℕ → ℕ → Entry
unfolding verdict
entries_after l v zero = v.entry
entries_after l v (suc s) = erased_if (drops (verdict l (with_entries v (entries_after l v s)) s)) s (entries_after l v s)

-- The disk without those of them that were dropped.
abbrev pub disk_after : Layout → View → ℕ → View
disk_after l v n = with_entries v (entries_after l v n)

-- The report's byte of slot s.
abbrev pub report_of : Layout → View → ℕ → ℕ
report_of l v s = verdict l (disk_after l v s) s

-- The disk with the kept slots alone: its chains are the kept chains.
abbrev pub survivors : Layout → View → View
survivors l v = disk_after l v l.slots

-- ---- what is written

module _ (l : Layout) (v : View) where
  -- The dropped slots.
  unfoldable pub dropped_slots : List ℕ
  unfolding those entries_after verdict
  dropped_slots = those (λ s. drops (report_of l v s)) 0 l.slots

  -- The system blocks that don't hold the system value.
  unfoldable pub wrong_system : List ℕ
  unfolding those bad_system
  wrong_system = those (bad_system l v) 0 l.system

  -- The data blocks on no kept chain whose map value isn't 0.
  unfoldable pub stray_blocks : List ℕ
  unfolding those stray entries_after
  stray_blocks = those (stray l (survivors l v)) l.first (l.blocks - l.first)

-- An image with some slots as remove leaves them.
unfoldable pub erase_slots : Layout → List ℕ → List ℕ → List ℕ
unfolding erase_entry
erase_slots l img [] = img
erase_slots l img (s ∷ ss) = erase_slots l (erase_entry img (slot_offset l s)) ss

-- The image that the run leaves: the dropped slots erased, the system values restored, the stray blocks freed.
unfoldable pub salvage_image : Layout → List ℕ → List ℕ
unfolding set_all erase_slots dropped_slots wrong_system stray_blocks entry_at
salvage_image l img =
    let v = view_of l (bytes img) in
    set_all (set_all (erase_slots l img (dropped_slots l v)) (wrong_system l v) l.reserved) (stray_blocks l v) 0

-- How many map values of one image are others in another.
unfoldable pub map_changes : Layout → List ℕ → List ℕ → ℕ
unfolding count
map_changes l img after = count (λ b. not (eqb (map_at (bytes after) b) (map_at (bytes img) b))) 0 l.blocks

-- The report afterwards: a byte for each slot, and the rest as it was lent.
unfoldable pub report_after : Layout → List ℕ → List ℕ → List ℕ
unfolding tab entries_after entry_at verdict
report_after l img report = tab (report_of l (view_of l (bytes img))) 0 l.slots ++ drop l.slots report

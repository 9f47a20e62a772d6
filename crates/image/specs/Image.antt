-- The disk that an image's bytes hold, and the images that put and remove leave, byte for byte (document 01, "The disk" and
-- "Calls on an accepted disk"). Assumes nothing.
use Rattle.std.specs.Prelude.{◌≡◌, true, false, List, ◌∷◌, ◌++◌, ◌↔◌, ℕ, ◌+◌, ◌<◌, length, take, replicate}
use Rattle.std.proofs.Math.Option.{Option}
use Rattle.laws.specs.Splice.{splice}
use Rattle.laws.specs.Reader.{bytes, tab}
use Rattle.layout.specs.declared.Layout.{Layout}
use Rattle.layout.specs.declared.Density.TheVariants.{High}
use Rattle.layout.specs.Layouts.{blocks_of, image_length, slot_offset}
use Rattle.blocks.specs.Numbers.{number, digits}
use Rattle.blocks.specs.Blocks.{blocks_for, block_at, write_blocks}
use Rattle.names.specs.Names.{area_of}
use Rattle.map.specs.Map.{map_at, free_blocks, first_or, link_blocks, set_all}
use Rattle.view.specs.Disk.{Entry, View, File, entry_chain, files_of, Valid}

-- A directory entry of 24 bytes: name area 16, type, length 3, start 2, identity 2.
unfoldable pub entry_at : (ℕ → ℕ) → ℕ → Entry
unfolding tab number
entry_at b at = record { area = tab b at 16; type = b (at + 16); size = number 3 b (at + 17); start = number 2 b (at + 20); identity = number 2 b (at + 22) }

abbrev pub identity_at : Layout → (ℕ → ℕ) → ℕ → ℕ
identity_at l b s = number 2 b (slot_offset l s + 22)

-- The disk that bytes hold.
abbrev pub view_of : Layout → (ℕ → ℕ) → View
view_of l b = record { map = map_at b; entry = λ s. entry_at b (slot_offset l s); block = block_at b }

-- The files on an image by slot.
abbrev pub files_in : Layout → List ℕ → ℕ → Option File
files_in l img = files_of l (view_of l (bytes img))

-- Slot 0 of the first directory has type byte 255, which says that this directory is ignored (document 02, request five).
abbrev pub PassedOver : (ℕ → ℕ) → Type 0
PassedOver b = b 16 ≡ 255

-- The layout's directory is the one that an image uses: the first is passed over exactly where there is a second, which is so at high density alone.
pub record InUse (l : Layout) (b : ℕ → ℕ) : Type 0 where
  pub passed_over_is : PassedOver b ↔ (l.second ≡ true)
  pub dense : l.second ≡ true → l.blocks ≡ blocks_of High

-- What a kind is known by: the directory in use and, in the first directory, one identity in every slot, empty ones too.
pub record OfKind (l : Layout) (b : ℕ → ℕ) : Type 0 where
  pub in_use : InUse l b
  pub identified : l.second ≡ false → (s : ℕ) → s < l.slots → identity_at l b s ≡ l.identity

-- The disk rules of an image (document 01, "The disk"; demand 2): its length, its kind, and a valid disk.
pub record DiskRules (l : Layout) (img : List ℕ) : Type 0 where
  pub size : length img ≡ image_length l
  pub kind : OfKind l (bytes img)
  pub valid : Valid l (view_of l (bytes img))

-- ---- remove

-- An entry as remove leaves it: zeros but for its identity.
abbrev pub erased : Entry → Entry
erased e = record { area = replicate 16 0; type = 0; size = 0; start = 0; identity = e.identity }

-- A slot's 22 bytes before its identity set to zeros.
unfoldable pub erase_entry : List ℕ → ℕ → List ℕ
erase_entry img at = splice img at (replicate 22 0)

-- Slot s set to zeros but for its identity, and its chain's map values set to 0.
unfoldable pub remove_image : Layout → List ℕ → ℕ → List ℕ
unfolding erase_entry set_all entry_chain entry_at
remove_image l img s = erase_entry (set_all img (entry_chain (map_at (bytes img)) (entry_at (bytes img) (slot_offset l s))) 0) (slot_offset l s)

-- ---- put

-- The 24 bytes of an entry.
abbrev pub entry_bytes : Entry → List ℕ
entry_bytes e = e.area ++ (e.type ∷ digits 3 e.size ++ (digits 2 e.start ++ digits 2 e.identity))

unfoldable pub set_entry : List ℕ → ℕ → Entry → List ℕ
unfolding digits
set_entry img at e = splice img at (entry_bytes e)

-- The lowest free blocks, as many as a content of n bytes needs.
unfoldable pub chosen : Layout → (ℕ → ℕ) → ℕ → List ℕ
unfolding free_blocks
chosen l m n = take (blocks_for n) (free_blocks l m)

-- The entry that a put writes.
unfoldable pub new_entry : Layout → (ℕ → ℕ) → List ℕ → ℕ → List ℕ → Entry
unfolding chosen first_or area_of
new_entry l m name type content = record { area = area_of l name; type = type; size = length content; start = first_or (chosen l m (length content)) 0; identity = l.identity }

-- Content in the blocks ks, and these chained.
unfoldable pub fill_blocks : Layout → List ℕ → List ℕ → List ℕ → List ℕ
unfolding link_blocks write_blocks
fill_blocks l img ks content = link_blocks (write_blocks img ks content) ks l.mark

-- The content in the lowest free blocks, chained in rising order, and the entry in slot s.
unfoldable pub put_image : Layout → List ℕ → ℕ → List ℕ → ℕ → List ℕ → List ℕ
unfolding set_entry fill_blocks chosen new_entry
put_image l img s name type content =
    set_entry (fill_blocks l img (chosen l (map_at (bytes img)) (length content)) content) (slot_offset l s) (new_entry l (map_at (bytes img)) name type content)

-- What put writes of an entry, and what it needs. Assumes nothing.
use Rattle.std.specs.Prelude.{◌≡◌, List, ℕ, ◌≤◌, ◌<◌, length}
use Rattle.laws.specs.Reader.{bytes}
use Rattle.layout.specs.declared.Layout.{Layout}
use Rattle.layout.specs.Layouts.{image_length, slot_offset}
use Rattle.layout.specs.Right.{LayoutRight}
use Rattle.blocks.specs.Blocks.{blocks_for}
use Rattle.map.specs.Map.{map_at, free_blocks, first_or}
use Rattle.view.specs.Disk.{Entry}
use Rattle.image.specs.Image.{set_entry, fill_blocks, chosen}

abbrev pub entry_with : List ℕ → ℕ → ℕ → ℕ → ℕ → Entry
entry_with area type size start identity = record { area = area; type = type; size = size; start = start; identity = identity }

-- The content in the lowest free blocks, chained in rising order, and the entry with this name area in slot s.
unfoldable pub put_area : Layout → List ℕ → ℕ → List ℕ → ℕ → List ℕ → List ℕ
unfolding set_entry fill_blocks chosen first_or
put_area l img s area type content =
    let ks = chosen l (map_at (bytes img)) (length content) in
    set_entry (fill_blocks l img ks content) (slot_offset l s) (entry_with area type (length content) (first_or ks 0) l.identity)

-- What a put of some content into a slot needs: the image's length, a slot, some content and as many free blocks as it needs.
pub record Puttable (l : Layout) (img : List ℕ) (s : ℕ) (content : List ℕ) : Type 0 where
  pub right : LayoutRight l
  pub whole : length img ≡ image_length l
  pub slot : s < l.slots
  pub some_content : 1 ≤ length content
  pub room : blocks_for (length content) ≤ length (free_blocks l (map_at (bytes img)))

-- What every layout meets, and that those of all kinds do.
-- Shown once for each kind over the number of blocks and the first data block; a density adds a few inequalities. Assumes nothing.
use Rattle.std.specs.Prelude.{◌≡◌, refl, true, false, ◌⊎◌, ◌+◌, ◌≤◌, ◌<◌}
use Rattle.layout.specs.declared.Layout.{Layout}
use Rattle.layout.specs.declared.Kind.TheVariants.{S900, S1000}
use Rattle.layout.specs.declared.Density.{Density}
use Rattle.layout.specs.Layouts.{layout_of, head_length, map_offset, slot_offset, block_offset}

-- The directory ends before the map or starts after it.
abbrev pub DirectoryApart : Layout → Type 0
DirectoryApart l = (slot_offset l l.slots ≤ map_offset 0) ⊎ (map_offset l.blocks ≤ l.directory)

pub record LayoutRight (l : Layout) : Type 0 where
  -- system blocks, then data blocks; block 0 is no data block, so a map value of 0 is no link
  pub data_first : 0 < l.first
  pub data_some : l.first ≤ l.blocks
  pub blocks_most : l.blocks ≤ 1600
  pub system_low : l.system ≤ l.first
  -- the end mark is a two-byte number and no block
  pub mark_out : l.blocks ≤ l.mark
  pub mark_word : l.mark < 65536
  -- so is a system block's value
  pub reserved_word : l.reserved < 65536
  -- 512 slots at most
  pub slots_few : l.slots ≤ 512
  -- directory and map lie apart, in system blocks
  pub directory_apart : DirectoryApart l
  pub directory_low : slot_offset l l.slots ≤ block_offset l.first
  -- the first directory begins the image and none of its types is 255; a second one lies past the map
  pub first_directory : l.second ≡ false → (l.directory ≡ 0) × (0 < l.slots) × (l.most < 255)
  pub second_directory : l.second ≡ true → map_offset l.blocks ≤ l.directory
  pub map-low : map_offset l.blocks ≤ block_offset l.first
  -- and these in an image's head
  pub head_holds : block_offset l.first ≤ head_length
  -- names leave room for padding; 0 is no type; all of these are bytes
  pub letters_few : l.letters ≤ 12
  pub low_byte : l.low ≤ 126
  pub high_byte : l.high < 256
  pub pad_byte : l.pad < 256
  pub last_byte : l.last < 256
  pub type_some : 0 < l.least
  pub type_byte : l.most < 256
  pub identity-word : l.identity < 65536
  -- AKAII codes are 0 to 40
  pub akaii_codes : l.akaii ≡ true → (l.low ≡ 0) × (l.high ≡ 40)

-- The S1000's end mark is the S900's and a system block's value added up (document 02, request one).
pub mark_sum : (d : Density) → (layout_of S1000 d).mark ≡ (layout_of S900 d).mark + (layout_of S1000 d).reserved
mark_sum d = refl

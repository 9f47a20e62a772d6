-- The layouts of the kinds of image (document 01, "The disk"; document 02, request five), and the offsets that every kind shares.
-- Assumes nothing.
use Rattle.std.specs.Prelude.{true, false, ℕ, ◌+◌, ◌-◌, ◌*◌}
use Rattle.layout.specs.declared.Layout.{Layout}
use Rattle.layout.specs.declared.Kind.{Kind}
use Rattle.layout.specs.declared.Kind.TheVariants.{S900, S1000, S3000}
use Rattle.layout.specs.declared.Density.{Density}
use Rattle.layout.specs.declared.Density.TheVariants.{Low, High}

-- Blocks of an image.
abbrev pub blocks_of : Density → ℕ
blocks_of Low = 800
blocks_of High = 1600

-- Its bytes.
abbrev pub length_of : Density → ℕ
length_of Low = 819200
length_of High = 1638400

-- The first data block of an S900 or S1000 disk. The map's end decides: it lies in the fourth block at low density and in the fifth at high, whichever
-- the sampler.
abbrev pub first_data_of : Density → ℕ
first_data_of Low = 4
first_data_of High = 5

-- S900: names of ten ASCII bytes and six zeros, types A to Z, identities 0,0; system map values aren't read.
abbrev pub s900 : ℕ → ℕ → Layout
s900 blocks first = record {
  blocks = blocks;
  first = first;
  slots = 64;
  directory = 0;
  second = false;
  mark = 32768;
  system = 0;
  reserved = 0;
  letters = 10;
  low = 32;
  high = 126;
  akaii = false;
  pad = 0;
  last = 0;
  least = 65;
  most = 90;
  identity = 0;
}

-- S1000: names of twelve AKAII bytes and four of 32, types a to z, identities 0,3; each system block's map value is 16,384.
abbrev pub s1000 : ℕ → ℕ → Layout
s1000 blocks first = record {
  blocks = blocks;
  first = first;
  slots = 64;
  directory = 0;
  second = false;
  mark = 49152;
  system = first;
  reserved = 16384;
  letters = 12;
  low = 0;
  high = 40;
  akaii = true;
  pad = 32;
  last = 32;
  least = 97;
  most = 122;
  identity = 768;
}

-- S3000 (document 02, request five): the first directory is passed over; 512 slots at block 5 are used, and 17 system blocks. Names are of twelve AKAII
-- bytes and 0,0,0,2, types a capital plus 128, identities 0,12; end mark, system value and letters are the S1000's.
abbrev pub s3000 : ℕ → Layout
s3000 blocks =
    let like = s1000 blocks 17 in
    record {
      blocks = like.blocks;
      first = like.first;
      slots = 512;
      directory = 5120;
      second = true;
      mark = like.mark;
      system = like.system;
      reserved = like.reserved;
      letters = like.letters;
      low = like.low;
      high = like.high;
      akaii = like.akaii;
      pad = 0;
      last = 2;
      least = 193;
      most = 218;
      identity = 3072;
    }

-- The layout of a kind and a density. There is no S3000 disk of low density: that one is of no image (`OfKind`).
abbrev pub layout_of : Kind → Density → Layout
layout_of S900 d = s900 (blocks_of d) (first_data_of d)
layout_of S1000 d = s1000 (blocks_of d) (first_data_of d)
layout_of S3000 d = s3000 (blocks_of d)

-- The image's bytes.
abbrev pub image_length : Layout → ℕ
image_length l = 1024 * l.blocks

-- The blocks of its data area.
abbrev pub data_blocks : Layout → ℕ
data_blocks l = l.blocks - l.first

-- An image's head: every layout's system blocks lie in its first so many bytes, directory and map with them.
abbrev pub head_length : ℕ
head_length = 17408

-- The first byte of a block.
abbrev pub block_offset : ℕ → ℕ
block_offset b = 1024 * b

-- The first of a block's two map bytes.
abbrev pub map_offset : ℕ → ℕ
map_offset b = 1536 + 2 * b

-- The first of a slot's 24 bytes.
abbrev pub slot_offset : Layout → ℕ → ℕ
slot_offset l s = l.directory + 24 * s

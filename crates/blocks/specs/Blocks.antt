-- Blocks of 1,024 bytes (document 01, "The disk"): how many a content needs, their bytes, and an image with a content written to blocks. Assumes nothing.
use Rattle.std.specs.Prelude.{List, [], ◌∷◌, ◌++◌, ℕ, ◌+◌, ◌-◌, ◌/◌, length, take, drop}
use Rattle.laws.specs.Splice.{splice}
use Rattle.laws.specs.Padded.{padded}
use Rattle.laws.specs.Reader.{tab}
use Rattle.layout.specs.Layouts.{block_offset}

-- How many blocks hold a content of this length (document 01, "The disk").
abbrev pub blocks_for : ℕ → ℕ
blocks_for length = (length + 1023) / 1024

-- How many of them come after the first.
abbrev pub links_for : ℕ → ℕ
links_for length = (length - 1) / 1024

-- The bytes of a block.
abbrev pub block_at : (ℕ → ℕ) → ℕ → List ℕ
block_at b k = tab b (block_offset k) 1024

-- The bytes of blocks, one block after another; `block` gives the bytes of each.
unfoldable pub read_blocks : (ℕ → List ℕ) → List ℕ → List ℕ
read_blocks block [] = []
read_blocks block (k ∷ ks) = block k ++ read_blocks block ks

-- A block's bytes: the first 1,024 of a content, or all of it and zeros.
abbrev pub block_of : List ℕ → List ℕ
block_of content = padded (take 1024 content) 1024

-- An image with content in the blocks ks, each block of it in its own, the rest of the last one zeros (document 01,
-- "Calls on an accepted disk").
unfoldable pub write_blocks : List ℕ → List ℕ → List ℕ → List ℕ
write_blocks img [] content = img
write_blocks img (k ∷ ks) content = write_blocks (splice img (block_offset k) (block_of content)) ks (drop 1024 content)

-- The end mark on an accepted disk (document 01, "The disk"; its value on S1000 disks is document 02's, request one): the last block of every file holds it, in
-- reading and after every call; and no data block holds a value that is neither 0, nor a link, nor the mark. By the disk rules. Assumes nothing.
use Rattle.std.specs.Prelude.{List, ℕ, get_or}
use Rattle.laws.specs.Reader.{bytes}
use Rattle.layout.specs.declared.Layout.{Layout}
use Rattle.blocks.specs.Blocks.{links_for}
use Rattle.map.specs.Map.{map_at}
use Rattle.view.specs.Disk.{entry_chain}
use Rattle.image.specs.Image.{view_of}

-- The last block of a slot's chain.
abbrev pub last_block : Layout → List ℕ → ℕ → ℕ
last_block l img s = let e = (view_of l (bytes img)).entry s in get_or (entry_chain (map_at (bytes img)) e) (links_for e.size) 0

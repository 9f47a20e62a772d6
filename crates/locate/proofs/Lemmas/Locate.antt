-- The call for a file's blocks in the steps in which the code takes them.
-- By whether there is such a slot, whether it is used and whether the output has room. Assumes nothing.
use Rattle.std.specs.Prelude.{◌≡◌, true, List, [], ◌∷◌, ℕ, ◌≤◌, ◌<◌, length, Ok}
use Rattle.std.proofs.Math.Path.{refl}
use Rattle.std.proofs.Common.{arith, le-ltb}
use Rattle.laws.specs.Refusals.{filled}
use Rattle.laws.specs.Splice.{splice}
use Rattle.laws.specs.Reader.{bytes}
use Rattle.layout.specs.declared.Layout.{Layout}
use Rattle.blocks.specs.Blocks.{links_for}
use Rattle.map.specs.declared.collection.Blocks as collections
use Rattle.map.specs.Map.{map_at, chain, Collected}
use Rattle.view.specs.Disk.{used}
use Rattle.image.specs.Image.{view_of}
use Rattle.locate.specs.Locate.{file_blocks, storing}
use Rattle.locate.specs.Lemmas.Locate.{blocks_are, some_block}

-- ---- the code's steps

store_all : (blocks out : List ℕ) → 1 ≤ length blocks → length blocks ≤ length out → filled (Ok (length blocks)) (splice out 0 blocks) ≡ storing blocks out
store_all [] out h k = absurd (omega arith)
store_all (b ∷ bs) out h k = rw (le-ltb (length out) (length (b ∷ bs)) k) refl

-- a used slot, size and start being its entry's, and its chain collected
module _ (l : Layout) (img : List ℕ) (s : ℕ) (inside : s < l.slots) (here : used ((view_of l (bytes img)).entry s) ≡ true) {size start : ℕ}
    (sized : size ≡ ((view_of l (bytes img)).entry s).size) (starts : start ≡ ((view_of l (bytes img)).entry s).start) where
  module _ (r : collections.Blocks) (collected : Collected (chain (map_at (bytes img)) (links_for size) start) r) (out : List ℕ) where
    pub blocks_all : {lent after : List ℕ} → r.count ≤ length out → lent ≡ chain (map_at (bytes img)) (links_for size) start → after ≡ splice out 0 lent
        → filled (Ok r.count) after ≡ storing (file_blocks l img s) out
    blocks_all h e t =
        rw (blocks_are l img s inside here sized starts, t, e, collected.count) (store_all (chain (map_at (bytes img)) (links_for size) start) out (some_block l img s inside here sized starts r collected out) (omega (arith, collected.count)))

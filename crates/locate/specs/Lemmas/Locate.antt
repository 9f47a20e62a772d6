-- The call for a file's blocks in the steps in which the code takes them.
-- By whether there is such a slot, whether it is used and whether the output has room. Assumes nothing.
use Rattle.std.specs.Prelude.{◌≡◌, true, false, List, [], ◌∷◌, ℕ, ◌≤◌, ◌<◌, length, Err}
use Rattle.std.proofs.Math.Path.{refl}
use Rattle.std.proofs.Common.{arith, lt-ltb, le-ltb}
use Rattle.laws.specs.declared.Refusal.{Refusal}
use Rattle.laws.specs.Refusals.{refusal_at, filled}
use Rattle.laws.specs.Reader.{bytes}
use Rattle.layout.specs.declared.Kind.{Kind}
use Rattle.layout.specs.declared.Density.{Density}
use Rattle.layout.specs.declared.Layout.{Layout}
use Rattle.layout.specs.Layouts.{layout_of}
use Rattle.blocks.specs.Blocks.{links_for}
use Rattle.map.specs.declared.collection.Blocks as collections
use Rattle.map.specs.Map.{map_at, chain, Collected}
use Rattle.map.specs.Lemmas.Chains.{length-chain}
use Rattle.view.specs.Disk.{used, entry_chain, chain_of}
use Rattle.image.specs.Image.{view_of}
use Rattle.rules.specs.Check.{check_of, Checked, accepting}
use Rattle.locate.specs.Locate.{file_blocks, storing, blocks_of}

-- ---- the code's steps

module _ (l : Layout) (img : List ℕ) (s : ℕ) where
  none_above : l.slots ≤ s → file_blocks l img s ≡ []
  unfolding file_blocks
  none_above h = rw (le-ltb s l.slots h) refl

  none_empty : s < l.slots → used ((view_of l (bytes img)).entry s) ≡ false → file_blocks l img s ≡ []
  unfolding file_blocks chain_of
  none_empty h e = rw (lt-ltb s l.slots h, e) refl

  module _ (out : List ℕ) where
    pub blocks_above : l.slots ≤ s → filled (Err (refusal_at 10 0)) out ≡ storing (file_blocks l img s) out
    blocks_above h = rw (none_above h) refl

    pub blocks_empty : s < l.slots → used ((view_of l (bytes img)).entry s) ≡ false → filled (Err (refusal_at 10 0)) out ≡ storing (file_blocks l img s) out
    blocks_empty h e = rw (none_empty h e) refl

store_short : (blocks out : List ℕ) → 1 ≤ length blocks → length out < length blocks → filled (Err (refusal_at 21 0)) out ≡ storing blocks out
store_short [] out h k = absurd (omega arith)
store_short (b ∷ bs) out h k = rw (lt-ltb (length out) (length (b ∷ bs)) k) refl

-- a used slot, size and start being its entry's, and its chain collected
module _ (l : Layout) (img : List ℕ) (s : ℕ) (inside : s < l.slots) (here : used ((view_of l (bytes img)).entry s) ≡ true) {size start : ℕ}
    (sized : size ≡ ((view_of l (bytes img)).entry s).size) (starts : start ≡ ((view_of l (bytes img)).entry s).start) where
  pub blocks_are : file_blocks l img s ≡ chain (map_at (bytes img)) (links_for size) start
  unfolding file_blocks chain_of entry_chain
  blocks_are = rw (lt-ltb s l.slots inside, here, sized, starts) refl

  module _ (r : collections.Blocks) (collected : Collected (chain (map_at (bytes img)) (links_for size) start) r) (out : List ℕ) where
    pub some_block : 1 ≤ length (chain (map_at (bytes img)) (links_for size) start)
    some_block = omega (arith, length-chain (map_at (bytes img)) (links_for size) start)

    pub blocks_short : length out < r.count → filled (Err (refusal_at 21 0)) out ≡ storing (file_blocks l img s) out
    blocks_short h = rw blocks_are (store_short (chain (map_at (bytes img)) (links_for size) start) out some_block (omega (arith, collected.count)))

-- ---- by the check's answer

module _ (img : List ℕ) (s : ℕ) (out : List ℕ) {c : Checked} (checked : c ≡ check_of img) where
  pub blocks_refused : {r : Refusal} → c ≡ Err r → filled (Err r) out ≡ blocks_of img s out
  unfolding blocks_of
  blocks_refused e = rw (← checked, e) refl

  pub blocks_done : {k : Kind} {d : Density} {f n : ℕ} → c ≡ accepting k d f n → {l : Layout} → l ≡ layout_of k d → storing (file_blocks l img s) out ≡ blocks_of img s out
  unfolding blocks_of
  blocks_done e made = rw (← checked, e, made) refl

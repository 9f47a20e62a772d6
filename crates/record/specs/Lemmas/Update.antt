-- A put or a remove that the record grants: the image that it leaves meets the disk rules, and its files are the record's.
-- A granted name is in a used slot, a granted put has an empty slot, a name that is new within its type and enough free blocks; the rest is `view` and `image`. Assumes nothing.
use Rattle.std.specs.Prelude.{◌≡◌, Bool, true, false, not, ℕ, ◌+◌, ◌-◌, ◌≤◌, ◌<◌, Ok}
use Rattle.std.proofs.Math.Path.{refl}
use Rattle.std.proofs.Common.{arith}
use mathlib.Core.List.{List}
use Rattle.std.proofs.Math.ListN.{length}
use borrow.Author.Tests.{lt-ltb}
use Rattle.laws.specs.Scan.{total}
use Rattle.laws.specs.Reader.{bytes}
use Rattle.laws.specs.Lemmas.Reader.{length-tab}
use Rattle.laws.specs.Member.{In}
use Rattle.laws.specs.Lemmas.Member.{in_take}
use Rattle.layout.specs.declared.Layout.{Layout}
use Rattle.layout.specs.Layouts.{block_offset}
use Rattle.layout.specs.Right.{LayoutRight}
use Rattle.blocks.specs.Blocks.{blocks_for}
use Rattle.map.specs.Map.{Data, map_at, free_blocks, free_count}
use Rattle.map.specs.Lemmas.Free.{in_free}
use Rattle.view.specs.Disk.{View, used, file_of, files_of, takes}
use Rattle.view.proofs.Lemmas.Counting.{free_blocks_is}
use Rattle.image.specs.Image.{view_of, files_in, DiskRules, chosen}
use Rattle.record.specs.Record.{is_empty, free, judge_put}

-- ---- slots and their files

-- a slot is empty in the record exactly if its entry isn't used
pub empty_used : (l : Layout) (v : View) (t : ℕ) → t < l.slots → is_empty (files_of l v t) ≡ not (used (v.entry t))
unfolding files_of
empty_used l v t h = rw (lt-ltb t l.slots h) (go (used (v.entry t)) refl)
  where
    go : (u : Bool) → used (v.entry t) ≡ u → is_empty (file_of l v (v.entry t)) ≡ not (used (v.entry t))
    go true p = rw p refl
    go false p = rw p refl

module _ (l : Layout) (right : LayoutRight l) (img : List ℕ) (rules : DiskRules l img) where
  -- ---- counts

  -- the map's free blocks and the blocks that the files need are together the data area (demand 3)
  pub area_split : free_count l (map_at (bytes img)) + total (λ s. takes (files_in l img s)) 0 l.slots ≡ l.blocks - l.first
  area_split = free_blocks_is l right (view_of l (bytes img)) rules.valid (λ b d. length-tab (bytes img) (block_offset b) 1024)

  -- the record's free blocks are those counted in the map
  pub free_is : free l (files_in l img) ≡ free_count l (map_at (bytes img))
  unfolding free
  free_is = omega (arith, area_split)

  -- ---- put

  module _ (name : List ℕ) (type : ℕ) (content : List ℕ) (s : ℕ) (granted : judge_put l (files_in l img) name type content ≡ Ok s) where
    abbrev ks : List ℕ
    ks = chosen l (map_at (bytes img)) (length content)

    pub chosen-free : (b : ℕ) → In b ks → (l.first ≤ b) × (b < l.first + (l.blocks - l.first)) × (map_at (bytes img) b ≡ 0)
    unfolding chosen free_blocks
    chosen-free b i = in_free (map_at (bytes img)) l.first (l.blocks - l.first) b (in_take (blocks_for (length content)) (free_blocks l (map_at (bytes img))) b i)

    pub chosen-inside : (b : ℕ) → In b ks → Data l b
    chosen-inside b i = let r = chosen-free b i in (r.0, omega (arith, r.1, right.data_some))

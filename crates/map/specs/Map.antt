-- The map (document 01, "The disk"): map values, links, chains and their faults, free blocks, and what changes of a map.
-- Chains and walks are over any map m : block → value. Assumes nothing.
use Rattle.std.specs.Prelude.{◌≡◌, Bool, true, false, List, [], ◌∷◌, ◌⊎◌, ℕ, zero, suc, ◌-◌, ◌≤◌, ◌<◌, leb, ltb, eqb, length, get_or, set}
use Rattle.laws.specs.Truth.{pick, both}
use Rattle.laws.specs.Scan.{count, those}
use Rattle.laws.specs.Splice.{splice}
use Rattle.laws.specs.Padded.{padded}
use Rattle.layout.specs.declared.Layout.{Layout}
use Rattle.layout.specs.Layouts.{map_offset}
use Rattle.blocks.specs.Numbers.{number, digits}
use Rattle.map.specs.declared.collection.Blocks.{Blocks}
use Rattle.laws.specs.Member.{has}

-- The map value of a block.
abbrev pub map_at : (ℕ → ℕ) → ℕ → ℕ
map_at b block = number 2 b (map_offset block)

-- All of the layout's map lies in these bytes.
abbrev pub Fits : Layout → List ℕ → Type 0
Fits l img = map_offset l.blocks ≤ length img

-- A data block: a block of the disk, and none below its first data block. As a map value it is a link.
abbrev pub Data : Layout → ℕ → Type 0
Data l block = (l.first ≤ block) × (block < l.blocks)

unfoldable pub is_link : Layout → ℕ → Bool
is_link l v = both (leb l.first v) (ltb v l.blocks)

-- ---- chains

-- The chain from a block on: the block and the `links` blocks after it, each named by the map value of the one before.
unfoldable pub chain : (ℕ → ℕ) → ℕ → ℕ → List ℕ
chain m zero block = block ∷ []
chain m (suc links) block = block ∷ chain m links (m block)

-- The rule: all of its blocks lie in the data area, and the last holds the end mark.
unfoldable pub Chained : Layout → (ℕ → ℕ) → ℕ → ℕ → Type 0
Chained l m zero block = Data l block × (m block ≡ l.mark)
Chained l m (suc links) block = Data l block × Chained l m links (m block)

-- Its faults, on the way from the start. Refusal 6: the start, or before the last block a value that isn't the end mark, is no link.
unfoldable pub Astray : Layout → (ℕ → ℕ) → ℕ → ℕ → Type 0
Astray l m zero block = Data l block → ⊥
Astray l m (suc links) block = (Data l block → ⊥) ⊎ (Data l block × (m block ≡ l.mark → ⊥) × Astray l m links (m block))

-- Refusal 7: the end mark before the last block, or anything else at it.
unfoldable pub Miscounted : Layout → (ℕ → ℕ) → ℕ → ℕ → Type 0
Miscounted l m zero block = Data l block × (m block ≡ l.mark → ⊥)
Miscounted l m (suc links) block = Data l block × ((m block ≡ l.mark) ⊎ Miscounted l m links (m block))

-- How the walk of a chain ends: faultless, at what is no link and no end mark (refusal 6), or at the wrong length (7).
pub data Walk : Type 0 where
  Whole : Walk
  Bad : Walk
  Cut : Walk

-- The same walked from the start to the first fault. A start or a value that is no link is Bad; the end mark too early, and
-- anything else at the last block, is Cut.
unfoldable pub walk : Layout → (ℕ → ℕ) → ℕ → ℕ → Walk
unfolding is_link
walk l m zero block = pick (is_link l block) (pick (eqb (m block) l.mark) Whole Cut) Bad
walk l m (suc links) block = pick (is_link l block) (pick (eqb (m block) l.mark) Cut (walk l m links (m block))) Bad

-- The refusal of each fault.
abbrev pub fault_of : Walk → ℕ
fault_of Whole = 0
fault_of Bad = 6
fault_of Cut = 7

abbrev pub is_whole : Walk → Bool
is_whole Whole = true
is_whole Bad = false
is_whole Cut = false

-- ---- free blocks

-- The free ones of the n blocks from i on, in rising order: their map value is 0.
unfoldable pub free_from : (ℕ → ℕ) → ℕ → ℕ → List ℕ
unfolding those
free_from m i n = those (λ k. eqb (m k) 0) i n

-- The free blocks of the data area, and their number.
unfoldable pub free_blocks : Layout → (ℕ → ℕ) → List ℕ
unfolding free_from
free_blocks l m = free_from m l.first (l.blocks - l.first)

unfoldable pub free_count : Layout → (ℕ → ℕ) → ℕ
unfolding count
free_count l m = count (λ k. eqb (m k) 0) l.first (l.blocks - l.first)

-- What a function that collects blocks answers: these, and zeros in the rest of its list.
pub record Collected (blocks : List ℕ) (r : Blocks) : Type 0 where
  pub few : length blocks ≤ 1600
  pub count : r.count ≡ length blocks
  pub list : r.list ≡ padded blocks 1600

-- ---- changes

-- An image with another map value at a block.
unfoldable pub set_map : List ℕ → ℕ → ℕ → List ℕ
unfolding digits
set_map img block v = splice img (map_offset block) (digits 2 v)

-- The first of some blocks, or the mark where there is none.
unfoldable pub first_or : List ℕ → ℕ → ℕ
first_or [] mark = mark
first_or (b ∷ bs) mark = b

-- An image with blocks chained in order, the last one at the end mark.
unfoldable pub link_blocks : List ℕ → List ℕ → ℕ → List ℕ
unfolding set_map first_or
link_blocks img [] mark = img
link_blocks img (b ∷ bs) mark = link_blocks (set_map img b (first_or bs mark)) bs mark

-- An image with one map value at some blocks: 0 frees them.
unfoldable pub set_all : List ℕ → List ℕ → ℕ → List ℕ
unfolding set_map
set_all img [] v = img
set_all img (b ∷ bs) v = set_all (set_map img b v) bs v

-- ---- marks, one for each block

-- Whether one of the blocks is marked.
unfoldable pub touched : List Bool → List ℕ → Bool
touched ms [] = false
touched ms (b ∷ bs) = pick (get_or ms b false) true (touched ms bs)

-- The marks with these blocks marked too.
unfoldable pub marked : List Bool → List ℕ → List Bool
marked ms [] = ms
marked ms (b ∷ bs) = marked (set ms b true) bs

-- A byte that lies outside the map of n blocks.
abbrev pub Outside : ℕ → ℕ → Type 0
Outside n i = (i < map_offset 0) ⊎ (map_offset n ≤ i)

-- Below n the marks are those of the blocks xs.
pub record Marks (n : ℕ) (ms : List Bool) (xs : List ℕ) : Type 0 where
  pub size : length ms ≡ n
  pub mark : (b : ℕ) → b < n → get_or ms b false ≡ has xs b

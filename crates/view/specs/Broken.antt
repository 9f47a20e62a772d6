-- The disk rules one by one in the order in which they are asked, where each is broken, and by which number it is then refused (document 01,
-- "The numbers given back", rows 3 to 9). Assumes nothing.
use Rattle.std.specs.Prelude.{◌≡◌, true, ◌⊎◌, ℕ, ◌<◌}
use Rattle.laws.specs.declared.Refusal.{Refusal}
use Rattle.layout.specs.declared.Layout.{Layout}
use Rattle.blocks.specs.Blocks.{links_for}
use Rattle.map.specs.Map.{Data, Astray, Miscounted}
use Rattle.view.specs.Disk.{View, formed, Namesakes, Used, Owns}
use Rattle.laws.specs.Refusals.{number_of, place_of}

-- The rules, by their names in `Valid`.
pub data Rule : Type 0 where
  system : Rule
  legal : Rule
  single : Rule
  linked : Rule
  apart : Rule
  owner : Rule

-- The order: 3, 4, 5, then 6 and 7 together, 8, 9.
abbrev pub turn : Rule → ℕ
turn system = 0
turn legal = 1
turn single = 2
turn linked = 3
turn apart = 4
turn owner = 5

-- A rule is broken at a place, and is refused by a number.
abbrev pub Breaks : Layout → View → Rule → ℕ → ℕ → Type 0
-- a system block doesn't hold the system value
Breaks l v system number block = (number ≡ 3) × (block < l.system) × (v.map block ≡ l.reserved → ⊥)
-- a used slot is malformed
Breaks l v legal number slot = (number ≡ 4) × Used l v slot × (formed l (v.entry slot) ≡ true → ⊥)
-- its name and its type stand in a lower used slot
Breaks l v single number slot = (number ≡ 5) × Used l v slot × ((t : ℕ) × (t < slot) × Used l v t × Namesakes (v.entry slot) (v.entry t))
-- its chain goes astray, or has the wrong number of blocks
Breaks l v linked number slot =
    Used l v slot
    × (((number ≡ 6) × Astray l v.map (links_for (v.entry slot).size) (v.entry slot).start)
    ⊎ ((number ≡ 7) × Miscounted l v.map (links_for (v.entry slot).size) (v.entry slot).start))
-- its chain has a block of a lower slot's chain
Breaks l v apart number slot = (number ≡ 8) × ((t : ℕ) × (t < slot) × ((b : ℕ) × Owns l v slot b × Owns l v t b))
-- a data block's map value isn't 0, and no chain has the block
Breaks l v owner number block = (number ≡ 9) × Data l block × (v.map block ≡ 0 → ⊥) × ((s : ℕ) → Owns l v s block → ⊥)

-- A refusal is due: it is that of the first broken rule, at the lowest place where that one is broken.
pub record Due (l : Layout) (v : View) (r : Refusal) : Type 0 where
  pub rule : Rule
  pub broken : Breaks l v rule (number_of r) (place_of r)
  pub earlier : (other : Rule) → turn other < turn rule → (number place : ℕ) → Breaks l v other number place → ⊥
  pub lower : (number place : ℕ) → place < place_of r → Breaks l v rule number place → ⊥

-- A disk as its map, its directory entries and its blocks, its files, and the disk rules (document 01, "The disk").
-- No byte offset occurs from here on. Assumes nothing.
use Rattle.std.specs.Prelude.{◌≡◌, Bool, true, not, List, [], ◌++◌, ℕ, zero, suc, ◌<◌, take, length, leb, ltb, eqb}
use Rattle.std.proofs.Math.Option.{Option, none, some}
use Rattle.laws.specs.Truth.{pick, both}
use Rattle.laws.specs.Lists.{same}
use Rattle.laws.specs.Member.{In}
use Rattle.layout.specs.declared.Layout.{Layout}
use Rattle.blocks.specs.Blocks.{links_for, read_blocks, blocks_for}
use Rattle.names.specs.Names.{legal_area, legal_type, name_of}
use Rattle.map.specs.Map.{Data, chain, Chained}

-- A directory entry: the name's area, the type, the length, the start block and the identity.
pub record Entry : Type 0 where
  pub area : List ℕ
  pub type : ℕ
  pub size : ℕ
  pub start : ℕ
  pub identity : ℕ

-- A disk: the map value of each block, the entry of each slot, the bytes of each block.
pub record View : Type 0 where
  pub map : ℕ → ℕ
  pub entry : ℕ → Entry
  pub block : ℕ → List ℕ

-- A file as document 01's plain record holds it: the name in ASCII, the type and the content.
pub record File : Type 0 where
  pub name : List ℕ
  pub type : ℕ
  pub content : List ℕ

-- Type 0 marks an empty slot.
unfoldable pub used : Entry → Bool
used e = not (eqb e.type 0)

-- A used slot's form: a legal name area, a legal type, a length of at least 1, the layout's identity.
unfoldable pub formed : Layout → Entry → Bool
unfolding legal_area legal_type
formed l e = both (legal_area l e.area) (both (legal_type l e.type) (both (leb 1 e.size) (eqb e.identity l.identity)))

-- An entry has this name area and this type: a file is known by both (document 02, request six). 0 is no file's type, so that for one an empty slot never passes.
unfoldable pub has_name : List ℕ → ℕ → Entry → Bool
unfolding same
has_name area type e = both (same area e.area) (eqb type e.type)

-- The blocks of an entry's chain, as many as its length needs.
unfoldable pub entry_chain : (ℕ → ℕ) → Entry → List ℕ
unfolding chain
entry_chain m e = chain m (links_for e.size) e.start

-- The blocks of a slot: none if it is empty.
unfoldable pub chain_of : View → ℕ → List ℕ
unfolding used entry_chain
chain_of v s = pick (used (v.entry s)) (entry_chain v.map (v.entry s)) []

-- The blocks of the slots below s, in slot order.
unfoldable pub owned : View → ℕ → List ℕ
unfolding chain_of
owned v zero = []
owned v (suc s) = owned v s ++ chain_of v s

-- A file's content: the first bytes of its chain's blocks in order, as many as its length.
unfoldable pub content_of : View → Entry → List ℕ
unfolding read_blocks entry_chain
content_of v e = take e.size (read_blocks v.block (entry_chain v.map e))

unfoldable pub file_of : Layout → View → Entry → Option File
unfolding used name_of content_of
file_of l v e = pick (used e) (some (record { name = name_of l e.area; type = e.type; content = content_of v e })) none

-- The files of a disk by slot.
unfoldable pub files_of : Layout → View → ℕ → Option File
unfolding file_of
files_of l v s = pick (ltb s l.slots) (file_of l v (v.entry s)) none

-- ---- the disk rules

-- Slot s is used.
abbrev pub Used : Layout → View → ℕ → Type 0
Used l v s = (s < l.slots) × (used (v.entry s) ≡ true)

-- Two entries with one name and one type.
abbrev pub Namesakes : Entry → Entry → Type 0
Namesakes e f = (e.area ≡ f.area) × (e.type ≡ f.type)

-- Block b is on the chain of slot s.
abbrev pub Owns : Layout → View → ℕ → ℕ → Type 0
Owns l v s b = Used l v s × In b (entry_chain v.map (v.entry s))

pub record Valid (l : Layout) (v : View) : Type 0 where
  -- every system block holds the system value
  pub system : (k : ℕ) → k < l.system → v.map k ≡ l.reserved
  -- every used slot is well formed
  pub legal : (s : ℕ) → Used l v s → formed l (v.entry s) ≡ true
  -- no name stands twice within one type
  pub single : (s t : ℕ) → Used l v s → Used l v t → Namesakes (v.entry s) (v.entry t) → s ≡ t
  -- every chain lies in the data area, is as long as its file needs, and ends there
  pub linked : (s : ℕ) → Used l v s → Chained l v.map (links_for (v.entry s).size) (v.entry s).start
  -- no block is on two chains
  pub apart : (s t b : ℕ) → Owns l v s b → Owns l v t b → s ≡ t
  -- no data block is marked used without a file
  pub owner : (b : ℕ) → Data l b → (v.map b ≡ 0 → ⊥) → (s : ℕ) × Owns l v s b

-- The blocks that a file takes.
abbrev pub takes : Option File → ℕ
takes none = 0
takes (some f) = blocks_for (length f.content)

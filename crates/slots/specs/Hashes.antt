-- A table of the files' hashes: a slot's name and type are compared only with those of the lower slots that have its hash.
-- Equal names with equal types have equal hashes; what else a hash is doesn't matter. Assumes nothing.
use Rattle.std.specs.Prelude.{◌≡◌, Bool, true, List, ℕ, zero, suc, ◌+◌, ◌*◌, ◌/◌, ◌%◌, ◌<◌, eqb, length, get_or}
use Rattle.laws.specs.Truth.{pick, both}
use Rattle.layout.specs.declared.Layout.{Layout}
use Rattle.layout.specs.Layouts.{slot_offset}
use Rattle.blocks.specs.Numbers.{number}
use Rattle.view.specs.Disk.{used}
use Rattle.view.specs.Rules.{repeated}
use Rattle.image.specs.Image.{view_of}

-- A hash of the two keys of a name's area and a type: the halves of both keys and the type, times powers of 31, modulo a prime.
abbrev pub hash_of : ℕ → ℕ → ℕ → ℕ
hash_of low high type = (low % 4294967296 + 31 * (low / 4294967296) + 961 * (high % 4294967296) + 29791 * (high / 4294967296) + 923521 * type) % 1009

abbrev pub slot_hash : Layout → (ℕ → ℕ) → ℕ → ℕ
slot_hash l b s = hash_of (number 8 b (slot_offset l s)) (number 8 b (slot_offset l s + 8)) ((view_of l b).entry s).type

-- What a function that hashes a slot's name and type answers: a place of the table.
pub record Hash (l : Layout) (b : ℕ → ℕ) (s r : ℕ) : Type 0 where
  pub value : r ≡ slot_hash l b s
  pub small : r < 1009

-- A slot is used and has this hash.
unfoldable pub has_hash : Layout → (ℕ → ℕ) → ℕ → ℕ → Bool
unfolding used
has_hash l b hash s = both (used ((view_of l b).entry s)) (eqb (slot_hash l b s) hash)

-- A slot is used and has the hash of slot s.
abbrev pub has_hash_of : Layout → (ℕ → ℕ) → ℕ → ℕ → Bool
has_hash_of l b s = has_hash l b (slot_hash l b s)

-- The highest number below n that passes the test, plus 1; 0 where none does.
unfoldable pub highest : (ℕ → Bool) → ℕ → ℕ
highest f zero = 0
highest f (suc n) = pick (f n) (suc n) (highest f n)

-- For each hash, the highest slot below n that has it.
pub record Tops (l : Layout) (b : ℕ → ℕ) (tops : List ℕ) (n : ℕ) : Type 0 where
  pub size : length tops ≡ 1009
  pub top : (hash : ℕ) → hash < 1009 → get_or tops hash 0 ≡ highest (has_hash l b hash) n

-- For each used slot below n, the next lower one with its hash.
pub record Lowers (l : Layout) (b : ℕ → ℕ) (lowers : List ℕ) (n : ℕ) : Type 0 where
  pub size : length lowers ≡ 512
  pub lower : (s : ℕ) → s < n → used ((view_of l b).entry s) ≡ true → get_or lowers s 0 ≡ highest (has_hash_of l b s) s

-- What a slot's turn answers, and the table that it leaves.
pub record Turn (l : Layout) (b : ℕ → ℕ) (tops lowers : List ℕ) (s : ℕ) (r : Bool) : Type 0 where
  pub answer : r ≡ repeated l (view_of l b) s
  pub tops_on : Tops l b tops (s + 1)
  pub lowers_on : Lowers l b lowers (s + 1)

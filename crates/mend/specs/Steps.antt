-- The salvage run in the steps in which the code takes it: which slots the report keeps and drops, what is said of a chain, and which blocks are freed.
-- Assumes nothing.
use Rattle.std.specs.Prelude.{◌≡◌, Bool, true, false, not, List, ℕ, ◌≤◌, ◌<◌, eqb, length, take, get_or}
use Rattle.laws.specs.Truth.{pick, both}
use Rattle.layout.specs.declared.Layout.{Layout}
use Rattle.map.specs.Map.{chain, walk, is_whole, fault_of, touched, Marks}
use Rattle.view.specs.Disk.{View, used, owned}
use Rattle.view.specs.Rules.{has_name_of, repeated}
use Rattle.slots.specs.Hashes.{highest}
use Rattle.salvage.specs.Salvage.{drops, disk_after, report_of}

-- The report keeps a slot, and drops one.
abbrev pub is_kept : List ℕ → ℕ → Bool
is_kept report s = eqb (get_or report s 0) 1

abbrev pub is_dropped : List ℕ → ℕ → Bool
is_dropped report s = drops (get_or report s 0)

-- A kept slot with the name and the type of slot s.
unfoldable pub kept_name : Layout → View → List ℕ → ℕ → ℕ → Bool
unfolding has_name_of
kept_name l v report s t = both (is_kept report t) (has_name_of l v s t)

-- What the report notes of a slot before the slots are judged: whether a lower used slot has its name and type.
abbrev pub name_note : Layout → View → ℕ → ℕ
name_note l v s = pick (repeated l v s) 1 0

-- How far the used slots below n go: the highest plus 1, or 0.
abbrev pub used_end : View → ℕ → ℕ
used_end v n = highest (λ s. used (v.entry s)) n

-- The first n bytes of a report are these, the others as they were lent.
pub record Reported (f : ℕ → ℕ) (lent report : List ℕ) (n : ℕ) : Type 0 where
  pub size : length report ≡ length lent
  pub said : (t : ℕ) → t < n → get_or report t 0 ≡ f t
  pub kept : (t : ℕ) → n ≤ t → get_or report t 0 ≡ get_or lent t 0

-- What is said of a chain whose blocks before this one had a marked block or not.
unfoldable pub chain_said : Layout → (ℕ → ℕ) → List Bool → Bool → ℕ → ℕ → ℕ
unfolding walk chain touched
chain_said l m marks shared links block =
    pick (is_whole (walk l m links block)) (pick (pick shared true (touched marks (chain m links block))) 8 1) (fault_of (walk l m links block))

-- A list of 1,600 numbers, which begins with these blocks if their slot is kept.
pub record Noted (list : List ℕ) (verdict : ℕ) (blocks : List ℕ) : Type 0 where
  pub size : length list ≡ 1600
  pub front : verdict ≡ 1 → take (length blocks) list ≡ blocks

-- A block that is to be freed: its map value isn't 0, and it isn't marked.
abbrev pub is_lost : (ℕ → ℕ) → List Bool → ℕ → Bool
is_lost m marks b = both (not (eqb (m b) 0)) (not (get_or marks b false))

-- The report and the marks once the slots below n were judged.
pub record Judging (l : Layout) (v : View) (report : List ℕ) (marks : List Bool) (n : ℕ) : Type 0 where
  pub said : (t : ℕ) → t < n → get_or report t 0 ≡ report_of l v t
  pub chains : Marks 1600 marks (owned (disk_after l v n) n)

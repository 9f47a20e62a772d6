-- Demand 3, one claim about calls made one after another on an accepted image: after each, all is the plain record's (`demand_3`).
-- An accepted image meets the disk rules, a call keeps them and changes the files as the record does. Assumes nothing.
use Rattle.std.specs.Prelude.{◌≡◌, Bool, true, false, ◌↔◌, ℕ, ◌+◌, ◌<◌, length, Some, None}
use Rattle.std.proofs.Math.Path.{refl, ap}
use Rattle.std.proofs.Common.{sym, ◌∙◌, arith}
use mathlib.Core.List.{List, [], ◌∷◌}
use Rattle.std.proofs.Math.Option.{none, some}
use Rattle.std.proofs.Math.Decide.{dec_lt}
use Rattle.laws.specs.Lemmas.Truth.{clash}
use Rattle.laws.specs.Scan.{lowest, total, Lowest}
use Rattle.laws.specs.Lemmas.Scan.{nowhere→}
use Rattle.laws.specs.Reader.{bytes}
use Rattle.layout.specs.declared.Kind.{Kind}
use Rattle.layout.specs.declared.Density.{Density}
use Rattle.layout.specs.declared.Layout.{Layout}
use Rattle.layout.specs.Layouts.{layout_of, data_blocks}
use Rattle.blocks.specs.Blocks.{blocks_for}
use Rattle.names.specs.Names.{legal_name, legal_type}
use Rattle.map.specs.Map.{map_at, free_count}
use Rattle.view.specs.Disk.{File, takes, used, file_of, Used}
use Rattle.view.specs.Lemmas.Kept.{file_at_is, file-out}
use Rattle.image.specs.Image.{view_of, files_in}
use Rattle.record.specs.Record.{shape_of, Files, put, remove, Turn, refused, Removes, is_empty, empty_slot, step_files}
use Rattle.record.specs.Download.{Pages, own, nothing, got, Asked, Spared, Joins}
use Rattle.rules.specs.Check.{check_of, Made, accepting}
use Rattle.rules.specs.Accepted.{accepted_as}

-- ---- the claim

-- Each call is made on the image that the one before it left.
abbrev pub Ran : List ℕ → List Turn → Type 0
Ran img [] = Unit {0}
Ran img (t ∷ ts) = Made img t.call t.answer t.output t.after × Ran t.after ts

-- What is claimed of one call, made on the image `before` when the record held the files `held`, and of those after it.
pub record Kept (k : Kind) (d : Density) (before : List ℕ) (held : Files) (t : Turn) (ts : List Turn) : Type 0 where
  -- the answer, number and place of a refusal included, and the output are the record's
  pub answer : t.answer ≡ (step_files (shape_of k d) held t.call).answer
  pub output : t.output ≡ (step_files (shape_of k d) held t.call).output
  -- the image is accepted, of the same kind and density, and its files are, slot by slot, the record's
  pub accepted : check_of t.after ≡ accepted_as k d t.after
  pub files : (s : ℕ) → files_in (layout_of k d) t.after s ≡ (step_files (shape_of k d) held t.call).state s
  -- a file that the call doesn't remove keeps slot, name, type and content
  pub others : (s : ℕ) (file : File) → files_in (layout_of k d) before s ≡ some file → (Removes (layout_of k d) t.call file → ⊥) → files_in (layout_of k d) t.after s ≡ some file
  -- the free blocks, counted in the map, and every file's length rounded up to blocks make the data area
  pub free : free_count (layout_of k d) (map_at (bytes t.after)) + total (λ s. takes (files_in (layout_of k d) t.after s)) 0 (layout_of k d).slots ≡ data_blocks (layout_of k d)
  -- a put with a legal type, a legal name, some content and an empty slot, where no file would be removed by that name and type, is refused for room ↔ it needs more
  -- blocks than are free
  pub room : (name : List ℕ) (type : ℕ) (content : List ℕ) → t.call ≡ put name type content → legal_type (layout_of k d) type ≡ true → legal_name (layout_of k d) name ≡ true
      → ((s : ℕ) (file : File) → files_in (layout_of k d) before s ≡ some file → Removes (layout_of k d) (remove name type) file → ⊥) → (length content ≡ 0 → ⊥)
      → (s : ℕ) → s < (layout_of k d).slots → files_in (layout_of k d) before s ≡ none
      → (t.answer ≡ refused 15 0) ↔ (free_count (layout_of k d) (map_at (bytes before)) < blocks_for (length content))
  -- a download that begins with it joins to a beginning of the file, and to all of it ↔ its last page says the end, if none removes the file before that
  pub download : (slot : ℕ) (file : File) → files_in (layout_of k d) before slot ≡ some file → (ps : Pages ts) → Asked slot 0 (own {t = t} ps) → Spared (layout_of k d) file ps
      → Joins file.content (got nothing (own {t = t} ps))

-- After each call of a sequence, refused ones included.
abbrev pub Behaves : Kind → Density → List ℕ → Files → List Turn → Type 0
Behaves k d img held [] = Unit {0}
Behaves k d img held (t ∷ ts) = Kept k d img held t ts × Behaves k d t.after (step_files (shape_of k d) held t.call).state ts

-- ---- one call

-- a slot that holds a file is one of the disk's
pub slot_inside : (l : Layout) (img : List ℕ) (s : ℕ) (file : File) → files_in l img s ≡ some file → s < l.slots
slot_inside l img s file e = go (dec_lt s l.slots)
  where
    go : Dec (s < l.slots) → s < l.slots
    go (yes h) = h
    go (no h) = let z : none ≡ some file = sym (file-out l (view_of l (bytes img)) s (omega arith)) ∙ e in absurd (let o : ◌≡◌ {A = ℕ} 0 1 = cc in omega arith)

-- a slot that holds a file is used
pub file-used : (l : Layout) (img : List ℕ) (s : ℕ) (file : File) → files_in l img s ≡ some file → Used l (view_of l (bytes img)) s
unfolding file_of
file-used l img s file e = (slot_inside l img s file e, go (used ((view_of l (bytes img)).entry s)) refl)
  where
    go : (t : Bool) → used ((view_of l (bytes img)).entry s) ≡ t → used ((view_of l (bytes img)).entry s) ≡ true
    go true u = u
    go false u =
        let z : none ≡ some file = (rw u refl) ∙ sym (file_at_is l (view_of l (bytes img)) s (slot_inside l img s file e)) ∙ e in
        absurd (let o : ◌≡◌ {A = ℕ} 0 1 = cc in omega arith)

-- ---- room

module _ (k : Kind) (d : Density) (f n : ℕ) (img : List ℕ) (yes : check_of img ≡ accepting k d f n) (name : List ℕ) (type : ℕ) (content : List ℕ) where
  abbrev l : Layout
  l = layout_of k d

  abbrev files : Files
  files = files_in l img

  pub some_slot : (s : ℕ) → s < l.slots → files s ≡ none → (r : ℕ) × (empty_slot l files ≡ Some r)
  unfolding empty_slot
  some_slot s h e = go (lowest (λ t. is_empty (files t)) 0 l.slots) refl
    where
      go : (w : Lowest) → lowest (λ t. is_empty (files t)) 0 l.slots ≡ w → (r : ℕ) × (lowest (λ t. is_empty (files t)) 0 l.slots ≡ Some r)
      go (Some r) p = (r, p)
      go None p = absurd (clash (ap is_empty e) (nowhere→ (λ t. is_empty (files t)) 0 l.slots p s (omega arith) (omega arith)))

-- What the run promises (document 02, request four), on any bytes as long as an image: a kept slot holds what its own chain says, any other nothing; no
-- byte changes but those of dropped slots and of map values; what it leaves meets the disk rules; and a valid disk comes back as it was.
-- From the disk mended, byte by byte and block by block. Assumes nothing.
use Rattle.std.specs.Prelude.{◌≡◌, not, List, ◌++◌, ◌⊎◌, ℕ, ◌+◌, ◌-◌, ◌≤◌, ◌<◌, eqb, length}
use Rattle.std.proofs.Math.Path.{refl, ap}
use Rattle.std.proofs.Common.{sym, ◌∙◌, eq-eqb}
use native.Mathlib.Omega.{arith}
use Rattle.std.proofs.Math.ListN.{drop, get_or, length-append, length-drop, get_or-append}
use Rattle.std.proofs.Math.Seq.{get_or-append-add, get_or-drop}
use Rattle.laws.specs.Lemmas.Scan.{count_never, count_split}
use Rattle.laws.specs.Reader.{bytes, tab}
use Rattle.laws.specs.Lemmas.Reader.{length-tab, get_or-tab}
use Rattle.layout.specs.declared.Layout.{Layout}
use Rattle.layout.specs.Layouts.{image_length}
use Rattle.layout.specs.Right.{LayoutRight}
use Rattle.map.specs.Map.{map_at}
use Rattle.image.specs.Image.{view_of}
use Rattle.image.specs.Outside.{InEntry, InMap, Among}
use Rattle.salvage.specs.Salvage.{report_of, dropped_slots, wrong_system, stray_blocks, salvage_image, map_changes, report_after}
use Rattle.salvage.specs.Lemmas.Run.{run_length}

-- ---- the report

module _ (l : Layout) (img report : List ℕ) where
  abbrev f : ℕ → ℕ
  f = report_of l (view_of l (bytes img))

  abbrev n : ℕ
  n = l.slots

  -- a byte for each slot
  pub report_said : (s : ℕ) → s < l.slots → get_or (report_after l img report) s 0 ≡ report_of l (view_of l (bytes img)) s
  unfolding report_after
  report_said s h =
      let z : 0 + s ≡ s = omega arith in get_or-append (tab f 0 n) (drop n report) 0 s (omega (arith, length-tab f 0 n)) ∙ get_or-tab f 0 n s h ∙ ap f z

  -- and those past the slots are kept
  pub report_past : (i : ℕ) → l.slots ≤ i → get_or (report_after l img report) i 0 ≡ get_or report i 0
  unfolding report_after
  report_past i h =
      let z : n + (i - n) ≡ i = omega arith in
      ap (λ (x : ℕ). get_or (tab f 0 n ++ drop n report) x 0) (sym z)
      ∙ ap (λ (x : ℕ). get_or (tab f 0 n ++ drop n report) (x + (i - n)) 0) (sym (length-tab f 0 n))
      ∙ get_or-append-add (tab f 0 n) (drop n report) (i - n) 0
      ∙ get_or-drop n report (i - n) 0
      ∙ ap (λ (x : ℕ). get_or report x 0) z

  pub report_length : l.slots ≤ length report → length (report_after l img report) ≡ length report
  unfolding report_after
  report_length h = length-append (tab f 0 n) (drop n report) ∙ omega (arith, length-tab f 0 n, length-drop n report)

-- ---- bytes

-- The run touches the dropped slots' 22 bytes, the wrong system values, and the map values of stray blocks.
abbrev pub SalvageTouches : Layout → List ℕ → ℕ → Type 0
SalvageTouches l img i =
    let v = view_of l (bytes img) in
    Among (dropped_slots l v) (InEntry l) i ⊎ (Among (wrong_system l v) InMap i ⊎ Among (stray_blocks l v) InMap i)

module _ (l : Layout) (right : LayoutRight l) (img : List ℕ) (whole : length img ≡ image_length l) where
  abbrev out : List ℕ
  out = salvage_image l img

  pub salvage_length : length out ≡ length img
  unfolding salvage_image
  salvage_length = run_length l right img whole

-- at most as many as there are blocks
pub changes_few : (l : Layout) (img after : List ℕ) → map_changes l img after ≤ l.blocks
unfolding map_changes
changes_few l img after = omega (arith, count_split (λ b. not (eqb (map_at (bytes after) b) (map_at (bytes img) b))) 0 l.blocks)

-- ---- a valid disk

pub same_changes : (l : Layout) (img : List ℕ) → map_changes l img img ≡ 0
unfolding map_changes
same_changes l img =
    count_never (λ b. not (eqb (map_at (bytes img) b) (map_at (bytes img) b))) 0 l.blocks (λ b p q. rw (eq-eqb (map_at (bytes img) b) (map_at (bytes img) b) refl) refl)

-- The image that the run leaves shows the disk mended; and which of its map values are others.
-- The dropped slots, the wrong system blocks and the stray blocks lie apart, so that each pass leaves what the others write. Assumes nothing.
use Rattle.std.specs.Prelude.{◌≡◌, Bool, not, List, ℕ, ◌-◌, ◌≤◌, ◌<◌, eqb, length}
use Rattle.std.proofs.Common.{◌∙◌, arith}
use Rattle.std.proofs.Math.Bool.{true}
use Rattle.laws.specs.Lemmas.Scan.{in_those}
use Rattle.laws.specs.Reader.{bytes}
use Rattle.laws.specs.Member.{In}
use Rattle.layout.specs.declared.Layout.{Layout}
use Rattle.layout.specs.Layouts.{image_length}
use Rattle.layout.specs.Right.{LayoutRight}
use Rattle.map.specs.Map.{Data, map_at, set_all}
use Rattle.map.specs.Lemmas.Linking.{length-set-all}
use Rattle.view.specs.Disk.{View}
use Rattle.view.specs.Rules.{bad_system, stray}
use Rattle.image.specs.Image.{view_of}
use Rattle.salvage.specs.Salvage.{drops, report_of, survivors, erase_slots, dropped_slots, wrong_system, stray_blocks}
use Rattle.salvage.specs.Lemmas.Erased.{length_erase}

-- ---- where the run writes

module _ (l : Layout) (v : View) where
  pub dropped_slot : (s : ℕ) → In s (dropped_slots l v) → (s < l.slots) × (drops (report_of l v s) ≡ true)
  unfolding dropped_slots
  dropped_slot s i = let r = in_those (λ t. drops (report_of l v t)) 0 l.slots s i in (omega (arith, r.1), r.2)

  pub wrong_block : (b : ℕ) → In b (wrong_system l v) → (b < l.system) × (bad_system l v b ≡ true)
  unfolding wrong_system
  wrong_block b i = let r = in_those (bad_system l v) 0 l.system b i in (omega (arith, r.1), r.2)

  module _ (right : LayoutRight l) where
    pub stray_block : (b : ℕ) → In b (stray_blocks l v) → Data l b × (stray l (survivors l v) b ≡ true)
    unfolding stray_blocks
    stray_block b i = let r = in_those (stray l (survivors l v)) l.first (l.blocks - l.first) b i in ((r.0, omega (arith, r.1, right.data_some)), r.2)

-- ---- the three passes

module _ (l : Layout) (right : LayoutRight l) (img : List ℕ) (whole : length img ≡ image_length l) where
  abbrev v : View
  v = view_of l (bytes img)

  abbrev one : List ℕ
  one = erase_slots l img (dropped_slots l v)

  abbrev two : List ℕ
  two = set_all one (wrong_system l v) l.reserved

  abbrev out : List ℕ
  out = set_all two (stray_blocks l v) 0

  pub run_length : length out ≡ length img
  run_length = length-set-all two (stray_blocks l v) 0 ∙ length-set-all one (wrong_system l v) l.reserved ∙ length_erase l img (dropped_slots l v)

  fits : (x : List ℕ) → length x ≡ length img → image_length l ≤ length x
  fits x e = omega arith

  -- ---- whether a map value is another

  abbrev pub differs : ℕ → Bool
  differs b = not (eqb (map_at (bytes out) b) (map_at (bytes img) b))

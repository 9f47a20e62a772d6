-- The record's file of a slot, from the slot's bytes on an image.
-- By whether there is such a slot and whether it is used. Assumes nothing.
use Rattle.std.specs.Prelude.{◌≡◌, true, false, List, ℕ, ◌+◌, ◌≤◌, ◌<◌, length}
use Rattle.std.proofs.Math.Path.{refl}
use Rattle.std.proofs.Math.Option.{none, some}
use Rattle.std.proofs.Common.{arith, lt-ltb, le-ltb}
use Rattle.laws.specs.Reader.{bytes}
use Rattle.laws.specs.Lemmas.Reader.{length-tab}
use Rattle.layout.specs.declared.Layout.{Layout}
use Rattle.layout.specs.Layouts.{slot_offset, block_offset}
use Rattle.layout.specs.Right.{LayoutRight}
use Rattle.names.specs.Names.{name_of}
use Rattle.view.specs.Disk.{File, used, content_of, files_of}
use Rattle.view.specs.Lemmas.Counting.{length-content}
use Rattle.image.specs.Image.{view_of, files_in, DiskRules}
use Rattle.record.specs.Record.{file_at}

-- The file that a used slot holds.
abbrev pub slot_file : Layout → List ℕ → ℕ → File
slot_file l img s =
    let v = view_of l (bytes img) in
    record { name = name_of l (v.entry s).area; type = (v.entry s).type; content = content_of v (v.entry s) }

-- a slot's bytes lie in the image
pub slot_held : (l : Layout) (img : List ℕ) (s : ℕ) → LayoutRight l → DiskRules l img → s < l.slots → slot_offset l s + 24 ≤ length img
slot_held l img s right rules h =
    let low = right.directory_low in
    let some = right.data_some in
    let whole = rules.size in
    omega arith

-- so does the directory
pub directory_held : (l : Layout) (img : List ℕ) → LayoutRight l → DiskRules l img → slot_offset l l.slots ≤ length img
directory_held l img right rules =
    let low = right.directory_low in
    let some = right.data_some in
    let whole = rules.size in
    omega arith

-- and so do the system blocks
pub first_held : (l : Layout) (img : List ℕ) → LayoutRight l → DiskRules l img → block_offset l.first ≤ length img
first_held l img right rules =
    let some = right.data_some in
    let whole = rules.size in
    omega arith

module _ (l : Layout) (img : List ℕ) (s : ℕ) where
  pub file_above : l.slots ≤ s → file_at l (files_in l img) s ≡ none
  unfolding file_at
  file_above h = rw (le-ltb s l.slots h) refl

  pub file_empty : s < l.slots → used ((view_of l (bytes img)).entry s) ≡ false → file_at l (files_in l img) s ≡ none
  unfolding file_at files_of
  file_empty h u = rw (lt-ltb s l.slots h, u) refl

  pub file-used : s < l.slots → used ((view_of l (bytes img)).entry s) ≡ true → file_at l (files_in l img) s ≡ some (slot_file l img s)
  unfolding file_at files_of
  file-used h u = rw (lt-ltb s l.slots h, u) refl

  -- its content is as long as the entry says
  pub file-length : LayoutRight l → DiskRules l img → s < l.slots → used ((view_of l (bytes img)).entry s) ≡ true
      → length (slot_file l img s).content ≡ ((view_of l (bytes img)).entry s).size
  file-length right rules h u = length-content l right (view_of l (bytes img)) rules.valid (λ b d. length-tab (bytes img) (block_offset b) 1024) s (h, u)

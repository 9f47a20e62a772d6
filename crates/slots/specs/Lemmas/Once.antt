-- A layout is right in one way only, so that a ghost field may say that it is. Assumes nothing.
-- Each part is an order, or what follows from an equation; the directory lies before the map or after it and not both, since there are blocks.
use Rattle.std.specs.Prelude.{◌≡◌, ◌≤◌, ◌<◌, true, false}
use Rattle.std.specs.Coded.{le_prop}
use Rattle.std.proofs.Props.{props}
use Rattle.std.proofs.Common.{ap, inl, inr, arith}
use Rattle.layout.specs.declared.Layout.{Layout}
use Rattle.layout.specs.Layouts.{map_offset}
use Rattle.layout.specs.Right.{LayoutRight, DirectoryApart}

apart_once : (l : Layout) → 0 < l.first → l.first ≤ l.blocks → (x y : DirectoryApart l) → x ≡ y
apart_once l some order (inl x) (inl y) = ap inl (le_prop x y)
apart_once l some order (inr x) (inr y) = ap inr (le_prop x y)
apart_once l some order (inl x) (inr y) = absurd (omega arith)
apart_once l some order (inr x) (inl y) = absurd (omega arith)

first_once : (l : Layout) → IsProp (l.second ≡ false → (l.directory ≡ 0) × (0 < l.slots) × (l.most < 255))
first_once l = hlevel props

second_once : (l : Layout) → IsProp (l.second ≡ true → map_offset l.blocks ≤ l.directory)
second_once l = hlevel props

akaii_once : (l : Layout) → IsProp (l.akaii ≡ true → (l.low ≡ 0) × (l.high ≡ 40))
akaii_once l = hlevel props

pub right_once : (l : Layout) → IsProp (LayoutRight l)
right_once l x y = λ i. record {
  data_first = le_prop x.data_first y.data_first i;
  data_some = le_prop x.data_some y.data_some i;
  blocks_most = le_prop x.blocks_most y.blocks_most i;
  system_low = le_prop x.system_low y.system_low i;
  mark_out = le_prop x.mark_out y.mark_out i;
  mark_word = le_prop x.mark_word y.mark_word i;
  reserved_word = le_prop x.reserved_word y.reserved_word i;
  slots_few = le_prop x.slots_few y.slots_few i;
  directory_apart = apart_once l x.data_first x.data_some x.directory_apart y.directory_apart i;
  directory_low = le_prop x.directory_low y.directory_low i;
  first_directory = first_once l x.first_directory y.first_directory i;
  second_directory = second_once l x.second_directory y.second_directory i;
  map-low = le_prop x.map-low y.map-low i;
  head_holds = le_prop x.head_holds y.head_holds i;
  letters_few = le_prop x.letters_few y.letters_few i;
  low_byte = le_prop x.low_byte y.low_byte i;
  high_byte = le_prop x.high_byte y.high_byte i;
  pad_byte = le_prop x.pad_byte y.pad_byte i;
  last_byte = le_prop x.last_byte y.last_byte i;
  type_some = le_prop x.type_some y.type_some i;
  type_byte = le_prop x.type_byte y.type_byte i;
  identity-word = le_prop x.identity-word y.identity-word i;
  akaii_codes = akaii_once l x.akaii_codes y.akaii_codes i;
}

-- What every layout meets, and that those of all kinds do.
-- Shown once for each kind over the number of blocks and the first data block; a density adds a few inequalities. Assumes nothing.
use Rattle.std.specs.Prelude.{refl, ℕ, ◌≤◌, ◌<◌}
use Rattle.std.proofs.Common.{sym, true≢false, inl, inr, arith}
use Rattle.layout.specs.declared.Kind.{Kind}
use Rattle.layout.specs.declared.Kind.TheVariants.{S900, S1000, S3000}
use Rattle.layout.specs.declared.Density.{Density}
use Rattle.layout.specs.declared.Density.TheVariants.{Low, High}
use Rattle.layout.specs.Layouts.{layout_of, s900, s1000, s3000, blocks_of, first_data_of, head_length, map_offset, block_offset}
use Rattle.layout.specs.Right.{LayoutRight}

-- What a density's number of blocks and first data block meet.
record Area (blocks first : ℕ) : Type 0 where
  some : 0 < first
  order : first ≤ blocks
  most : blocks ≤ 1600
  map : map_offset blocks ≤ block_offset first
  head : block_offset first ≤ head_length

area : (d : Density) → Area (blocks_of d) (first_data_of d)
area Low = record { some = omega arith; order = omega arith; most = omega arith; map = omega arith; head = omega arith }
area High = record { some = omega arith; order = omega arith; most = omega arith; map = omega arith; head = omega arith }

right_900 : (blocks first : ℕ) → Area blocks first → LayoutRight (s900 blocks first)
right_900 blocks first a = record {
  data_first = a.some;
  data_some = a.order;
  blocks_most = a.most;
  system_low = omega arith;
  mark_out = omega arith;
  mark_word = omega arith;
  reserved_word = omega arith;
  slots_few = omega arith;
  directory_apart = inl (omega arith);
  directory_low = omega arith;
  first_directory = λ e. (refl, omega arith, omega arith);
  second_directory = λ e. absurd (true≢false (sym e));
  map-low = a.map;
  head_holds = a.head;
  letters_few = omega arith;
  low_byte = omega arith;
  high_byte = omega arith;
  pad_byte = omega arith;
  last_byte = omega arith;
  type_some = omega arith;
  type_byte = omega arith;
  identity-word = omega arith;
  akaii_codes = λ e. absurd (true≢false (sym e));
}

right_1000 : (blocks first : ℕ) → Area blocks first → LayoutRight (s1000 blocks first)
right_1000 blocks first a = record {
  data_first = a.some;
  data_some = a.order;
  blocks_most = a.most;
  system_low = omega arith;
  mark_out = omega arith;
  mark_word = omega arith;
  reserved_word = omega arith;
  slots_few = omega arith;
  directory_apart = inl (omega arith);
  directory_low = omega arith;
  first_directory = λ e. (refl, omega arith, omega arith);
  second_directory = λ e. absurd (true≢false (sym e));
  map-low = a.map;
  head_holds = a.head;
  letters_few = omega arith;
  low_byte = omega arith;
  high_byte = omega arith;
  pad_byte = omega arith;
  last_byte = omega arith;
  type_some = omega arith;
  type_byte = omega arith;
  identity-word = omega arith;
  akaii_codes = λ e. (refl, refl);
}

right_3000 : (blocks : ℕ) → 17 ≤ blocks → blocks ≤ 1600 → LayoutRight (s3000 blocks)
right_3000 blocks some most = record {
  data_first = omega arith;
  data_some = omega arith;
  blocks_most = most;
  system_low = omega arith;
  mark_out = omega arith;
  mark_word = omega arith;
  reserved_word = omega arith;
  slots_few = omega arith;
  directory_apart = inr (omega arith);
  directory_low = omega arith;
  first_directory = λ e. absurd (true≢false e);
  second_directory = λ e. omega arith;
  map-low = omega arith;
  head_holds = omega arith;
  letters_few = omega arith;
  low_byte = omega arith;
  high_byte = omega arith;
  pad_byte = omega arith;
  last_byte = omega arith;
  type_some = omega arith;
  type_byte = omega arith;
  identity-word = omega arith;
  akaii_codes = λ e. (refl, refl);
}

pub layout_right : (k : Kind) (d : Density) → LayoutRight (layout_of k d)
layout_right S900 d = right_900 (blocks_of d) (first_data_of d) (area d)
layout_right S1000 d = right_1000 (blocks_of d) (first_data_of d) (area d)
layout_right S3000 Low = right_3000 800 (omega arith) (omega arith)
layout_right S3000 High = right_3000 1600 (omega arith) (omega arith)

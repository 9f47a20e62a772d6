-- The image that the run leaves shows the disk mended; and which of its map values are others.
-- The dropped slots, the wrong system blocks and the stray blocks lie apart, so that each pass leaves what the others write. Assumes nothing.
use Rattle.std.specs.Prelude.{◌≡◌, Bool, not, List, ℕ, ◌-◌, ◌≤◌, ◌<◌, eqb, length}
use Rattle.std.proofs.Math.Path.{refl, sym, ap}
use Rattle.std.proofs.Common.{◌∙◌, arith}
use Rattle.std.proofs.Math.Bool.{true, false}
use borrow.Author.Tests.{eqb-true, eqb-false, eq-eqb, ne_eqb, not-true, not-false}
use Rattle.laws.specs.Lemmas.Truth.{both_true, clash}
use Rattle.laws.specs.Lemmas.Scan.{those_in}
use Rattle.laws.specs.Reader.{bytes}
use Rattle.laws.specs.Lemmas.Reader.{tab_cong}
use Rattle.laws.specs.Member.{In, has}
use Rattle.laws.specs.Lemmas.Member.{in_has, out-has}
use Rattle.layout.specs.declared.Layout.{Layout}
use Rattle.layout.specs.Layouts.{image_length, slot_offset, block_offset}
use Rattle.layout.specs.Right.{LayoutRight}
use Rattle.map.specs.Map.{Data, map_at, set_all, Outside}
use Rattle.map.specs.Lemmas.Linking.{length-set-all, set-all-other, set-all_outside, set-all-on}
use Rattle.view.specs.Disk.{View, Entry, owned}
use Rattle.view.specs.Rules.{bad_system, stray}
use Rattle.image.specs.Image.{entry_at, identity_at, view_of}
use Rattle.image.specs.Lemmas.Entries.{entry_cong}
use Rattle.image.specs.Lemmas.Effect.{dir_outside, data_outside}
use Rattle.salvage.specs.Salvage.{drops, report_of, survivors, erase_slots, dropped_slots, wrong_system, stray_blocks, salvage_image}
use Rattle.salvage.specs.Lemmas.Judged.{kept_entry, dropped_entry}
use Rattle.salvage.specs.Lemmas.Survivors.{Mended}
use Rattle.salvage.specs.Lemmas.Erased.{length_erase, erase_map, erase_block, erase_other}
use Rattle.salvage.proofs.Lemmas.Erased.{erase_on}
use Rattle.salvage.specs.Lemmas.Run.{dropped_slot, wrong_block, stray_block, differs}

-- ---- where the run writes

module _ (l : Layout) (v : View) where
  slot_dropped : (s : ℕ) → s < l.slots → drops (report_of l v s) ≡ true → In s (dropped_slots l v)
  unfolding dropped_slots
  slot_dropped s h e = those_in (λ t. drops (report_of l v t)) 0 l.slots s (omega arith) (omega arith) e

  block_wrong : (b : ℕ) → b < l.system → bad_system l v b ≡ true → In b (wrong_system l v)
  unfolding wrong_system
  block_wrong b h e = those_in (bad_system l v) 0 l.system b (omega arith) (omega arith) e

  -- a stray block: on no kept chain, and not free
  stray_off : (b : ℕ) → stray l (survivors l v) b ≡ true → (In b (owned (survivors l v) l.slots) → ⊥) × (v.map b ≡ 0 → ⊥)
  unfolding stray
  stray_off b e =
      let p = both_true (not (eqb (v.map b) 0)) (not (has (owned (survivors l v) l.slots) b)) e in
      (λ i. clash (in_has (owned (survivors l v) l.slots) b i) (not-true (has (owned (survivors l v) l.slots) b) p.1), eqb-false (v.map b) 0 (not-true (eqb (v.map b) 0) p.0))

  off_stray : (b : ℕ) → (In b (owned (survivors l v) l.slots) → ⊥) → (v.map b ≡ 0 → ⊥) → stray l (survivors l v) b ≡ true
  unfolding stray
  off_stray b n z = rw (ne_eqb (v.map b) 0 z, out-has (owned (survivors l v) l.slots) b n) refl

  module _ (right : LayoutRight l) where
    block_stray : (b : ℕ) → Data l b → stray l (survivors l v) b ≡ true → In b (stray_blocks l v)
    unfolding stray_blocks
    block_stray b d e = those_in (stray l (survivors l v)) l.first (l.blocks - l.first) b d.0 (omega (arith, d.1)) e

    not-stray : (b : ℕ) → b < l.first → In b (stray_blocks l v) → ⊥
    not-stray b h i = omega (arith, (stray_block l v right b i).0.0)

    not-wrong : (b : ℕ) → l.system ≤ b → In b (wrong_system l v) → ⊥
    not-wrong b h i = omega (arith, (wrong_block l v b i).0)

-- ---- the three passes

module _ (l : Layout) (right : LayoutRight l) (img : List ℕ) (whole : length img ≡ image_length l) where
  abbrev v : View
  v = view_of l (bytes img)

  abbrev one : List ℕ
  one = erase_slots l img (dropped_slots l v)

  abbrev two : List ℕ
  two = set_all one (wrong_system l v) l.reserved

  abbrev out : List ℕ
  out = set_all two (stray_blocks l v) 0

  slots_in : (s : ℕ) → In s (dropped_slots l v) → s < l.slots
  slots_in s i = (dropped_slot l v s i).0

  wrong_in : (b : ℕ) → In b (wrong_system l v) → b < l.blocks
  wrong_in b i = omega (arith, (wrong_block l v b i).0, right.system_low, right.data_some)

  stray_in : (b : ℕ) → In b (stray_blocks l v) → b < l.blocks
  stray_in b i = (stray_block l v right b i).0.1

  -- outside the map it is the first pass's
  outside : (i : ℕ) → Outside l.blocks i → bytes out i ≡ bytes one i
  outside i o = set-all_outside two (stray_blocks l v) 0 l.blocks i stray_in o ∙ set-all_outside one (wrong_system l v) l.reserved l.blocks i wrong_in o

  same-entry : (t : ℕ) → t < l.slots → entry_at (bytes out) (slot_offset l t) ≡ entry_at (bytes one) (slot_offset l t)
  same-entry t h = entry_cong (bytes one) (bytes out) (slot_offset l t) (λ i p q. outside i (dir_outside l right t i h p (omega arith)))

  entry_by : (s : ℕ) → s < l.slots → (t : Bool) → drops (report_of l v s) ≡ t → entry_at (bytes out) (slot_offset l s) ≡ (survivors l v).entry s
  entry_by s h true e =
      same-entry s h
      ∙ erase_on l right img (dropped_slots l v) s slots_in (omega (arith, right.directory_low, right.data_some)) (slot_dropped l v s h e)
      ∙ sym (dropped_entry l v s e l.slots h)
  entry_by s h false e =
      same-entry s h ∙ erase_other l right img (dropped_slots l v) s slots_in (λ i. clash (dropped_slot l v s i).1 e) ∙ sym (kept_entry l v s e l.slots h)

  -- every slot's identity stays, a dropped one's too
  pub run-identity : (t : ℕ) → t < l.slots → identity_at l (bytes out) t ≡ identity_at l (bytes img) t
  unfolding entry_at
  run-identity t h = go (drops (report_of l v t)) refl
    where
      go : (d : Bool) → drops (report_of l v t) ≡ d → identity_at l (bytes out) t ≡ identity_at l (bytes img) t
      go true e = ap (λ (x : Entry). x.identity) (entry_by t h true e ∙ dropped_entry l v t e l.slots h)
      go false e = ap (λ (x : Entry). x.identity) (entry_by t h false e ∙ kept_entry l v t e l.slots h)

  -- ---- map values, by where the block is

  map_kept : (b : ℕ) → b < l.blocks → (In b (wrong_system l v) → ⊥) → (In b (stray_blocks l v) → ⊥) → map_at (bytes out) b ≡ map_at (bytes img) b
  map_kept b h n o =
      set-all-other two (stray_blocks l v) 0 b o ∙ set-all-other one (wrong_system l v) l.reserved b n ∙ erase_map l right img (dropped_slots l v) b slots_in h

  map-wrong : (b : ℕ) → In b (wrong_system l v) → map_at (bytes out) b ≡ l.reserved
  map-wrong b i =
      set-all-other two (stray_blocks l v) 0 b (not-stray l v right b (omega (arith, (wrong_block l v b i).0, right.system_low)))
      ∙ set-all-on one (wrong_system l v) l.reserved l.blocks b right.reserved_word wrong_in
      (omega (arith, length_erase l img (dropped_slots l v), right.map-low, right.data_some)) i

  map-stray : (b : ℕ) → In b (stray_blocks l v) → map_at (bytes out) b ≡ 0
  map-stray b i =
      set-all-on two (stray_blocks l v) 0 l.blocks b (omega arith) stray_in
      (omega (arith, length-set-all one (wrong_system l v) l.reserved, length_erase l img (dropped_slots l v), right.map-low, right.data_some)) i

  -- a block that isn't written: below the data area, or there and not stray
  pub map_system : (b : ℕ) → b < l.first → (In b (wrong_system l v) → ⊥) → map_at (bytes out) b ≡ map_at (bytes img) b
  map_system b h n = map_kept b (omega (arith, right.data_some)) n (not-stray l v right b h)

  map_data : (b : ℕ) → Data l b → (In b (stray_blocks l v) → ⊥) → map_at (bytes out) b ≡ map_at (bytes img) b
  map_data b d n = map_kept b d.1 (not-wrong l v right b (omega (arith, right.system_low, d.0))) n

  system_by : (k : ℕ) → k < l.system → (t : Bool) → bad_system l v k ≡ t → map_at (bytes out) k ≡ l.reserved
  system_by k h true e = map-wrong k (block_wrong l v k h e)
  system_by k h false e =
      map_system k (omega (arith, right.system_low)) (λ i. clash (wrong_block l v k i).1 e)
      ∙ (unfold bad_system in eqb-true (v.map k) l.reserved (not-false (eqb (v.map k) l.reserved) e))

  freed_by : (b : ℕ) → Data l b → (In b (owned (survivors l v) l.slots) → ⊥) → (t : Bool) → eqb (v.map b) 0 ≡ t → map_at (bytes out) b ≡ 0
  freed_by b d n true e =
      map_data b d (λ i. (stray_off l v b (stray_block l v right b i).1).1 (eqb-true (v.map b) 0 e)) ∙ eqb-true (v.map b) 0 e
  freed_by b d n false e = map-stray b (block_stray l v right b d (off_stray l v b n (eqb-false (v.map b) 0 e)))

  mended : Mended l v (view_of l (bytes out))
  mended = record {
    entry = λ s h. entry_by s h (drops (report_of l v s)) refl;
    system = λ k h. system_by k h (bad_system l v k) refl;
    chained = λ b d i. map_data b d (λ j. (stray_off l v b (stray_block l v right b j).1).0 i);
    freed = λ b d n. freed_by b d n (eqb (v.map b) 0) refl;
    block = λ b d.
        tab_cong (bytes one) (bytes out) (block_offset b) 1024 (λ i p q. outside i (data_outside l right b i d p)) ∙ erase_block l right img (dropped_slots l v) b slots_in d;
  }

  -- what the run leaves, by its definition
  pub run-mended : Mended l v (view_of l (bytes (salvage_image l img)))
  unfolding salvage_image
  run-mended = mended

  -- ---- whether a map value is another

  differs-not : (b : ℕ) → map_at (bytes out) b ≡ map_at (bytes img) b → differs l right img whole b ≡ false
  differs-not b e = rw (eq-eqb (map_at (bytes out) b) (map_at (bytes img) b) e) refl

  differs_yes : (b : ℕ) → (map_at (bytes out) b ≡ map_at (bytes img) b → ⊥) → differs l right img whole b ≡ true
  differs_yes b n = rw (ne_eqb (map_at (bytes out) b) (map_at (bytes img) b) n) refl

  pub differs_system : (b : ℕ) → b < l.system → differs l right img whole b ≡ bad_system l v b
  differs_system b h = go (bad_system l v b) refl
    where
      go : (t : Bool) → bad_system l v b ≡ t → differs l right img whole b ≡ bad_system l v b
      go true e =
          differs_yes b (λ z. eqb-false (v.map b) l.reserved (not-true (eqb (v.map b) l.reserved) (unfold bad_system in e)) (sym z ∙ map-wrong b (block_wrong l v b h e))) ∙ sym e
      go false e = differs-not b (map_system b (omega (arith, right.system_low)) (λ i. clash (wrong_block l v b i).1 e)) ∙ sym e

  pub differs_between : (b : ℕ) → l.system ≤ b → b < l.first → differs l right img whole b ≡ false
  differs_between b h k = differs-not b (map_system b k (not-wrong l v right b h))

  pub differs_data : (b : ℕ) → Data l b → differs l right img whole b ≡ stray l (survivors l v) b
  differs_data b d = go (stray l (survivors l v) b) refl
    where
      go : (t : Bool) → stray l (survivors l v) b ≡ t → differs l right img whole b ≡ stray l (survivors l v) b
      go true e = differs_yes b (λ z. (stray_off l v b e).1 (sym z ∙ map-stray b (block_stray l v right b d e))) ∙ sym e
      go false e = differs-not b (map_data b d (λ i. clash (stray_block l v right b i).1 e)) ∙ sym e

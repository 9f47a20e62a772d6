-- What the run promises (document 02, request four), on any bytes as long as an image: a kept slot holds what its own chain says, any other nothing; no
-- byte changes but those of dropped slots and of map values; what it leaves meets the disk rules; and a valid disk comes back as it was.
-- From the disk mended, byte by byte and block by block. Assumes nothing.
use Rattle.std.specs.Prelude.{◌≡◌, Bool, List, [], ◌↔◌, ◌⊎◌, ℕ, ◌+◌, ◌-◌, ◌≤◌, ◌<◌, eqb, length}
use Rattle.std.proofs.Math.Path.{refl, ap}
use Rattle.std.proofs.Common.{sym, ◌∙◌, inl, inr, ne_eqb}
use Rattle.std.proofs.Math.Bool.{true, false}
use Rattle.std.proofs.Math.Option.{none, some}
use Rattle.std.proofs.Math.Decide.{ℕ_discrete}
use native.Mathlib.Omega.{arith}
use Rattle.laws.specs.Truth.{pick}
use Rattle.laws.specs.Scan.{count}
use Rattle.laws.specs.Lemmas.Scan.{those_none, count_cong, count_never, count-append}
use Rattle.laws.specs.Reader.{bytes}
use Rattle.laws.specs.Member.{In}
use Rattle.layout.specs.declared.Layout.{Layout}
use Rattle.layout.specs.Layouts.{image_length, slot_offset, block_offset, map_offset}
use Rattle.layout.specs.Right.{LayoutRight}
use Rattle.names.specs.Names.{name_of}
use Rattle.map.specs.Map.{Data, map_at, set_all}
use Rattle.map.specs.Lemmas.Linking.{set-all_off}
use Rattle.view.specs.Disk.{View, File, used, owned, content_of, Valid}
use Rattle.view.specs.Rules.{bad_system, stray}
use Rattle.view.specs.Broken.{system, owner}
use Rattle.view.proofs.Exactly.{valid_quiet}
use Rattle.image.specs.Image.{identity_at, view_of, files_in, OfKind, DiskRules, erased}
use Rattle.image.specs.Lemmas.Kinds.{kind_kept}
use Rattle.image.specs.Outside.{InEntry, InMap, apart}
use Rattle.salvage.specs.Salvage.{drops, report_of, survivors, erase_slots, dropped_slots, wrong_system, stray_blocks, salvage_image, map_changes}
use Rattle.salvage.specs.Lemmas.Judged.{kept_entry, dropped_entry}
use Rattle.salvage.proofs.Lemmas.Judged.{kept_case, gone_entry}
use Rattle.salvage.proofs.Lemmas.Survivors.{mended_valid, mended_kept, mended_gone, valid_entries, valid_report}
use Rattle.salvage.specs.Lemmas.Erased.{erase_off}
use Rattle.salvage.specs.Lemmas.Run.{dropped_slot, wrong_block, stray_block, differs}
use Rattle.salvage.proofs.Lemmas.Run.{run-identity, run-mended, map_system, differs_system, differs_between, differs_data}
use Rattle.salvage.specs.Theorems.{SalvageTouches, salvage_length}

-- ---- bytes

pub salvage_outside : (l : Layout) (img : List ℕ) (i : ℕ) → (SalvageTouches l img i → ⊥) → bytes (salvage_image l img) i ≡ bytes img i
unfolding salvage_image
salvage_outside l img i out =
    let v = view_of l (bytes img) in
    let one = erase_slots l img (dropped_slots l v) in
    set-all_off (set_all one (wrong_system l v) l.reserved) (stray_blocks l v) 0 i (λ b j. apart (map_offset b) 2 i (λ p. out (inr (inr (b, j, p)))))
    ∙ set-all_off one (wrong_system l v) l.reserved i (λ b j. apart (map_offset b) 2 i (λ p. out (inr (inl (b, j, p)))))
    ∙ erase_off l img (dropped_slots l v) i (λ s j. apart (slot_offset l s) 22 i (λ p. out (inl (s, j, p))))

module _ (l : Layout) (right : LayoutRight l) where
  -- these lie in the first 22 bytes of a dropped slot, or in the map, and all below the data area
  pub touched_where : (img : List ℕ) (i : ℕ) → SalvageTouches l img i
      → ((s : ℕ) × (s < l.slots) × (drops (report_of l (view_of l (bytes img)) s) ≡ true) × InEntry l s i) ⊎ ((b : ℕ) × (b < l.blocks) × InMap b i)
  touched_where img i (inl p) = let d = dropped_slot l (view_of l (bytes img)) p.0 p.1 in inl (p.0, d.0, d.1, p.2)
  touched_where img i (inr (inl p)) =
      inr (p.0, omega (arith, (wrong_block l (view_of l (bytes img)) p.0 p.1).0, right.system_low, right.data_some), p.2)
  touched_where img i (inr (inr p)) = inr (p.0, (stray_block l (view_of l (bytes img)) right p.0 p.1).0.1, p.2)

  -- no data byte changes
  pub salvage_data : (img : List ℕ) (i : ℕ) → block_offset l.first ≤ i → bytes (salvage_image l img) i ≡ bytes img i
  salvage_data img i h = salvage_outside l img i (λ t. low (touched_where img i t))
    where
      low : ((s : ℕ) × (s < l.slots) × (drops (report_of l (view_of l (bytes img)) s) ≡ true) × InEntry l s i) ⊎ ((b : ℕ) × (b < l.blocks) × InMap b i) → ⊥
      low (inl p) = omega (arith, p.1, p.3.1, right.directory_low)
      low (inr p) = omega (arith, p.1, p.2.1, right.map-low)

module _ (l : Layout) (right : LayoutRight l) (img : List ℕ) (whole : length img ≡ image_length l) where
  abbrev v : View
  v = view_of l (bytes img)

  abbrev out : List ℕ
  out = salvage_image l img

  pub salvage_identity : (s : ℕ) → s < l.slots → identity_at l (bytes out) s ≡ identity_at l (bytes img) s
  unfolding salvage_image
  salvage_identity = run-identity l right img whole

  -- ---- slots

  -- a kept slot holds what its own entry and its own chain in the given map say
  pub salvage_kept : (s : ℕ) → s < l.slots → report_of l v s ≡ 1
      → files_in l out s ≡ some (record { name = name_of l (v.entry s).area; type = (v.entry s).type; content = content_of v (v.entry s) })
  salvage_kept = mended_kept l right v (view_of l (bytes out)) (run-mended l right img whole)

  -- any other is empty
  pub salvage_gone : (s : ℕ) → s < l.slots → (report_of l v s ≡ 1 → ⊥) → files_in l out s ≡ none
  salvage_gone = mended_gone l right v (view_of l (bytes out)) (run-mended l right img whole)

  -- so 1 is said exactly of the slots that hold a file afterwards
  pub kept_exactly : (s : ℕ) → s < l.slots → (report_of l v s ≡ 1) ↔ ((f : File) × (files_in l out s ≡ some f))
  kept_exactly s h = (λ e. (_, salvage_kept s h e), λ f. go (ℕ_discrete (report_of l v s) 1) f.0 f.1)
    where
      go : Dec (report_of l v s ≡ 1) → (f : File) → files_in l out s ≡ some f → report_of l v s ≡ 1
      go (yes e) f p = e
      go (no n) f p = let z : none ≡ some f = sym (salvage_gone s h n) ∙ p in absurd (let o : ◌≡◌ {A = ℕ} 0 1 = cc in omega arith)

  -- a dropped slot is as remove leaves it
  pub salvage_erased : (s : ℕ) → s < l.slots → drops (report_of l v s) ≡ true → (view_of l (bytes out)).entry s ≡ erased (v.entry s)
  salvage_erased s h e = (run-mended l right img whole).entry s h ∙ dropped_entry l v s e l.slots h

  -- ---- map values: every system block of an S1000 disk has the system value, a kept chain's blocks what they had, every other data block 0

  pub salvage_system : (b : ℕ) → b < l.system → map_at (bytes out) b ≡ l.reserved
  salvage_system = (run-mended l right img whole).system

  pub salvage_chained : (b : ℕ) → Data l b → In b (owned (survivors l v) l.slots) → map_at (bytes out) b ≡ map_at (bytes img) b
  salvage_chained = (run-mended l right img whole).chained

  pub salvage_freed : (b : ℕ) → Data l b → (In b (owned (survivors l v) l.slots) → ⊥) → map_at (bytes out) b ≡ 0
  salvage_freed = (run-mended l right img whole).freed

  -- those that the check doesn't read stay
  pub salvage_unread : (b : ℕ) → l.system ≤ b → b < l.first → map_at (bytes out) b ≡ map_at (bytes img) b
  unfolding salvage_image
  salvage_unread b h k = map_system l right img whole b k (λ i. omega (arith, (wrong_block l v b i).0))

  -- ---- the disk rules

  pub salvage_valid : Valid l (view_of l (bytes out))
  salvage_valid = mended_valid l right v (view_of l (bytes out)) (run-mended l right img whole)

  -- a first directory that isn't in use stays
  pub salvage_first : l.second ≡ true → (i : ℕ) → i < map_offset 0 → bytes out i ≡ bytes img i
  salvage_first e i h = salvage_outside l img i (λ t. go (touched_where l right img i t))
    where
      go : ((s : ℕ) × (s < l.slots) × (drops (report_of l v s) ≡ true) × InEntry l s i) ⊎ ((b : ℕ) × (b < l.blocks) × InMap b i) → ⊥
      go (inl p) = omega (arith, p.3.0, right.second_directory e)
      go (inr p) = omega (arith, p.2.0)

  pub salvage_rules : OfKind l (bytes img) → DiskRules l out
  salvage_rules kind = record {
    size = salvage_length l right img whole ∙ whole;
    kind = kind_kept l right (bytes out) salvage_valid (bytes img) kind (λ e. salvage_first e 16 (omega arith)) (λ e s h. salvage_identity s h ∙ kind.identified e s h);
    valid = salvage_valid;
  }

  -- ---- the count

  -- the map values that are others: wrong system values and stray blocks
  pub salvage_count : map_changes l img out ≡ count (bad_system l v) 0 l.system + count (stray l (survivors l v)) l.first (l.blocks - l.first)
  unfolding map_changes salvage_image
  salvage_count =
      let other = differs l right img whole in
      let a = l.system in
      let m = l.first - l.system in
      let n = l.blocks - l.first in
      let e : l.blocks ≡ a + (m + n) = omega (arith, right.system_low, right.data_some) in
      let f : 0 + a + m ≡ l.first = omega (arith, right.system_low) in
      let p : count other 0 a ≡ count (bad_system l v) 0 a = count_cong other (bad_system l v) 0 a (λ b x y. differs_system l right img whole b (omega arith)) in
      let q : count other (0 + a) m ≡ 0 = count_never other (0 + a) m (λ b x y. differs_between l right img whole b (omega arith) (omega arith)) in
      let r : count other l.first n ≡ count (stray l (survivors l v)) l.first n =
      count_cong other (stray l (survivors l v)) l.first n (λ b x y. differs_data l right img whole b (x, omega (arith, right.data_some))) in
      let c : count other 0 l.blocks ≡ count other 0 a + (count other (0 + a) m + count other (0 + a + m) n) =
      ap (count other 0) e ∙ count-append other 0 a (m + n) ∙ ap (λ (x : ℕ). count other 0 a + x) (count-append other (0 + a) m n) in
      let g : count other (0 + a + m) n ≡ count other l.first n = ap (λ (x : ℕ). count other x n) f in
      omega arith

-- ---- a valid disk

module _ (l : Layout) (right : LayoutRight l) (img : List ℕ) (valid : Valid l (view_of l (bytes img))) where
  abbrev given : View
  given = view_of l (bytes img)

  -- its report: 1 at used slots, 0 at the others
  pub valid_said : (s : ℕ) → s < l.slots → report_of l given s ≡ pick (used (given.entry s)) 1 0
  valid_said = valid_report l right given valid

  none_dropped : dropped_slots l given ≡ []
  unfolding dropped_slots
  none_dropped = those_none (λ s. drops (report_of l given s)) 0 l.slots (λ s p q. rw (valid_said s (omega arith)) (stays (used (given.entry s))))
    where
      stays : (t : Bool) → drops (pick t 1 0) ≡ false
      stays true = refl
      stays false = refl

  none_wrong : wrong_system l given ≡ []
  unfolding wrong_system
  none_wrong = those_none (bad_system l given) 0 l.system (valid_quiet l given right valid system)

  none_stray : stray_blocks l given ≡ []
  unfolding stray_blocks
  none_stray =
      rw (valid_entries l right given valid l.slots (omega arith))
      (those_none (stray l given) l.first (l.blocks - l.first) (valid_quiet l given right valid owner))

  -- it comes back as it was
  pub valid_untouched : salvage_image l img ≡ img
  unfolding salvage_image erase_slots set_all
  valid_untouched = rw (none_dropped, none_wrong, none_stray) refl

-- ---- twice

module _ (l : Layout) (right : LayoutRight l) (img : List ℕ) (whole : length img ≡ image_length l) where
  pub salvage_twice : salvage_image l (salvage_image l img) ≡ salvage_image l img
  salvage_twice = valid_untouched l right (salvage_image l img) (salvage_valid l right img whole)

  -- the second report: what was kept is kept, and every other slot is empty
  pub twice_said : (s : ℕ) → s < l.slots → report_of l (view_of l (bytes (salvage_image l img))) s ≡ pick (eqb (report_of l (view_of l (bytes img)) s) 1) 1 0
  twice_said s h =
      valid_said l right (salvage_image l img) (salvage_valid l right img whole) s h
      ∙ ap (λ (t : Bool). pick t 1 0) (ap used ((run-mended l right img whole).entry s h) ∙ go (ℕ_discrete (report_of l (view_of l (bytes img)) s) 1))
    where
      go : Dec (report_of l (view_of l (bytes img)) s ≡ 1) → used ((survivors l (view_of l (bytes img))).entry s) ≡ eqb (report_of l (view_of l (bytes img)) s) 1
      go (yes e) =
          let w = view_of l (bytes img) in
          rw (kept_entry l w s (rw e refl) l.slots h, e) (kept_case l w s e).0
      go (no n) = let w = view_of l (bytes img) in rw (ne_eqb (report_of l w s) 1 n) (gone_entry l w s n l.slots h)

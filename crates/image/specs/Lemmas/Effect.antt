-- What remove and put change of the disk that an image holds: the relations of `view`, from the images byte for byte.
-- Directory, map and data blocks lie apart, so a write to one leaves the others. Assumes nothing.
use Rattle.std.specs.Prelude.{◌≡◌, List, ◌⊎◌, ℕ, ◌+◌, ◌*◌, ◌≤◌, ◌<◌, take, replicate}
use Rattle.std.proofs.Math.Path.{ap}
use Rattle.std.proofs.Common.{◌∙◌, inl, inr, arith}
use Rattle.std.proofs.Math.Decide.{dec_lt, ℕ_discrete}
use Rattle.std.proofs.Math.ListN.{length}
use Rattle.laws.specs.Splice.{splice}
use Rattle.laws.specs.Lemmas.Splice.{length-splice}
use Rattle.laws.specs.Lemmas.Padded.{take-padded}
use Rattle.laws.specs.Reader.{bytes}
use Rattle.laws.specs.Lemmas.Reader.{tab_cong, splice_off}
use Rattle.laws.specs.Member.{In, Distinct}
use Rattle.layout.specs.declared.Layout.{Layout}
use Rattle.layout.specs.Layouts.{image_length, slot_offset, block_offset, map_offset}
use Rattle.layout.specs.Right.{LayoutRight, DirectoryApart}
use Rattle.blocks.specs.Lemmas.Numbers.{number_cong}
use Rattle.blocks.specs.Blocks.{block_at, write_blocks}
use Rattle.blocks.specs.Lemmas.Blocks.{read_cong, length_write, write_low, write_other, write_read}
use Rattle.map.specs.Map.{Data, map_at, set_all, Outside}
use Rattle.map.specs.Lemmas.Chains.{Linked, linked_cong}
use Rattle.map.specs.Lemmas.Linking.{length_link, length-set-all, set-all-other, set-all_outside, set-all-on}
use Rattle.map.proofs.Lemmas.Linking.{link_other, link_outside, link_on}
use Rattle.view.specs.Disk.{Entry, entry_chain}
use Rattle.view.specs.Lemmas.Remove.{Removed}
use Rattle.view.specs.Lemmas.Put.{Stored}
use Rattle.image.specs.Image.{entry_at, identity_at, view_of, erased, erase_entry, remove_image, entry_bytes, set_entry, fill_blocks}
use Rattle.image.specs.Lemmas.Entries.{entry_cong, erased-entry, length-entry, entry-same}

module _ (l : Layout) (right : LayoutRight l) where
  -- ---- where things lie

  dir_by : (i : ℕ) → DirectoryApart l → l.directory ≤ i → i < slot_offset l l.slots → Outside l.blocks i
  dir_by i (inl h) p q = inl (omega arith)
  dir_by i (inr h) p q = inr (omega arith)

  pub dir_outside : (t i : ℕ) → t < l.slots → slot_offset l t ≤ i → i < slot_offset l t + 24 → Outside l.blocks i
  dir_outside t i h p q = dir_by i right.directory_apart (omega arith) (omega arith)

  pub data_outside : (b i : ℕ) → Data l b → block_offset b ≤ i → Outside l.blocks i
  data_outside b i d p = inr (omega (arith, right.map-low, d.0))

  -- ---- a write to a slot leaves the map, other slots, what lies below the directory, and the data blocks

  module _ (img : List ℕ) (s : ℕ) (vs : List ℕ) (slot : s < l.slots) (short : length vs ≤ 24) where
    pub off : (i : ℕ) → (i < slot_offset l s) ⊎ (slot_offset l s + 24 ≤ i) → bytes (splice img (slot_offset l s) vs) i ≡ bytes img i
    off i (inl h) = splice_off img (slot_offset l s) vs i (inl h)
    off i (inr h) = splice_off img (slot_offset l s) vs i (inr (omega arith))

    map_apart : (k i : ℕ) → DirectoryApart l → k < l.blocks → map_offset k ≤ i → i < map_offset k + 2 → (i < slot_offset l s) ⊎ (slot_offset l s + 24 ≤ i)
    map_apart k i (inl h) c p q = inr (omega arith)
    map_apart k i (inr h) c p q = inl (omega arith)

    pub map-after : (k : ℕ) → k < l.blocks → map_at (bytes (splice img (slot_offset l s) vs)) k ≡ map_at (bytes img) k
    map-after k h =
        number_cong 2 (bytes img) (bytes (splice img (slot_offset l s) vs)) (map_offset k) (λ i p q. off i (map_apart k i right.directory_apart h p q))

    -- the bytes of another slot
    slot_apart : (t i : ℕ) → Dec (t < s) → (t ≡ s → ⊥) → slot_offset l t ≤ i → i < slot_offset l t + 24 → (i < slot_offset l s) ⊎ (slot_offset l s + 24 ≤ i)
    slot_apart t i (yes h) n p q = inl (omega arith)
    slot_apart t i (no h) n p q = inr (omega arith)

    pub entry-after : (t : ℕ) → (t ≡ s → ⊥) → entry_at (bytes (splice img (slot_offset l s) vs)) (slot_offset l t) ≡ entry_at (bytes img) (slot_offset l t)
    entry-after t n =
        entry_cong (bytes img) (bytes (splice img (slot_offset l s) vs)) (slot_offset l t) (λ i p q. off i (slot_apart t i (dec_lt t s) n p (omega arith)))

    pub block_after : (b : ℕ) → Data l b → block_at (bytes (splice img (slot_offset l s) vs)) b ≡ block_at (bytes img) b
    block_after b d =
        tab_cong (bytes img) (bytes (splice img (slot_offset l s) vs)) (block_offset b) 1024 (λ i p q. off i (inr (omega (arith, right.directory_low, d.0))))

  -- ---- remove

  module _ (img : List ℕ) (whole : length img ≡ image_length l) (s : ℕ) (slot : s < l.slots)
      (inside : (b : ℕ) → In b (entry_chain (map_at (bytes img)) (entry_at (bytes img) (slot_offset l s))) → Data l b) where
    abbrev freed : List ℕ
    freed = entry_chain (map_at (bytes img)) (entry_at (bytes img) (slot_offset l s))

    zeros : length {A = ℕ} (replicate 22 0) ≤ 24
    zeros = omega arith

    freed_below : (b : ℕ) → In b freed → b < l.blocks
    freed_below b i = (inside b i).1

    freed_dir : (t i : ℕ) → t < l.slots → slot_offset l t ≤ i → i < slot_offset l t + 24 → bytes (set_all img freed 0) i ≡ bytes img i
    freed_dir t i h p q = set-all_outside img freed 0 l.blocks i freed_below (dir_outside t i h p q)

    -- the slot shows zeros and its identity
    pub remove_entry : entry_at (bytes (remove_image l img s)) (slot_offset l s) ≡ erased (entry_at (bytes img) (slot_offset l s))
    unfolding remove_image
    remove_entry =
        let one = set_all img freed 0 in
        erased-entry one (slot_offset l s) (omega (arith, length-set-all img freed 0, right.directory_low, right.data_some))
        ∙ ap erased (entry_cong (bytes img) (bytes one) (slot_offset l s) (λ i p q. freed_dir s i slot p (omega arith)))

    pub removed : Removed l (view_of l (bytes img)) s (view_of l (bytes (remove_image l img s)))
    unfolding remove_image erase_entry
    removed =
        let one = set_all img freed 0 in
        let n : length one ≡ length img = length-set-all img freed 0 in
        record {
          gone = ap (λ (e : Entry). e.type) (unfold erase_entry in remove_entry);
          kept = λ t h ne.
              entry-after one s (replicate 22 0) slot zeros t ne
              ∙ entry_cong (bytes img) (bytes one) (slot_offset l t) (λ i p q. freed_dir t i h p (omega arith));
          freed = λ b i. map-after one s (replicate 22 0) slot zeros b (freed_below b i) ∙ set-all-on img freed 0 l.blocks b (omega arith) freed_below (omega (arith, right.map-low, right.data_some)) i;
          other = λ b h o. map-after one s (replicate 22 0) slot zeros b h ∙ set-all-other img freed 0 b o;
          block = λ b d.
              block_after one s (replicate 22 0) slot zeros b d
              ∙ tab_cong (bytes img) (bytes one) (block_offset b) 1024 (λ i p q. set-all_outside img freed 0 l.blocks i freed_below (data_outside b i d p));
        }

    pub remove_length : length (remove_image l img s) ≡ length img
    unfolding remove_image erase_entry
    remove_length = length-splice (set_all img freed 0) (slot_offset l s) (replicate 22 0) ∙ length-set-all img freed 0

    pub remove_identity : (t : ℕ) → t < l.slots → identity_at l (bytes (remove_image l img s)) t ≡ identity_at l (bytes img) t
    unfolding entry_at
    remove_identity t h = go (ℕ_discrete t s)
      where
        go : Dec (t ≡ s) → identity_at l (bytes (remove_image l img s)) t ≡ identity_at l (bytes img) t
        go (yes e) = rw e (ap (λ (x : Entry). x.identity) remove_entry)
        go (no n) = ap (λ (x : Entry). x.identity) (removed.kept t h n)

    -- what lies below directory and map
    pub remove_low : (i : ℕ) → i < l.directory → i < map_offset 0 → bytes (remove_image l img s) i ≡ bytes img i
    unfolding remove_image erase_entry
    remove_low i h k = off (set_all img freed 0) s (replicate 22 0) slot zeros i (inl (omega arith)) ∙ set-all_outside img freed 0 l.blocks i freed_below (inl k)

  -- ---- put

  module _ (img : List ℕ) (whole : length img ≡ image_length l) (s : ℕ) (slot : s < l.slots) (e : Entry) (area : length e.area ≡ 16)
      (size : e.size < 16777216) (start : e.start < 65536) (own : e.identity < 65536) (ks content : List ℕ) (distinct : Distinct ks) (inside : (b : ℕ) → In b ks → Data l b)
      (enough : length content ≤ 1024 * length ks) where
    short : length (entry_bytes e) ≤ 24
    short = omega (arith, length-entry e area)

    put_below : (b : ℕ) → In b ks → b < l.blocks
    put_below b i = (inside b i).1

    abbrev full : List ℕ
    full = fill_blocks l img ks content

    pub length-full : length full ≡ length img
    unfolding fill_blocks
    length-full = length_link (write_blocks img ks content) ks l.mark ∙ length_write img ks content

    -- system blocks keep their bytes, but for the map
    full_dir : (i : ℕ) → i < block_offset l.first → Outside l.blocks i → bytes full i ≡ bytes img i
    unfolding fill_blocks
    full_dir i h o = link_outside (write_blocks img ks content) ks l.mark l.blocks i put_below o ∙ write_low img ks content l.first i (λ b k. (inside b k).0) h

    full-map : (b : ℕ) → b < l.blocks → (In b ks → ⊥) → map_at (bytes full) b ≡ map_at (bytes img) b
    unfolding fill_blocks
    full-map b h o =
        link_other (write_blocks img ks content) ks l.mark b o
        ∙ number_cong 2 (bytes img) (bytes (write_blocks img ks content)) (map_offset b)
        (λ i p q. write_low img ks content l.first i (λ x k. (inside x k).0) (omega (arith, right.map-low)))

    full_linked : Linked (map_at (bytes full)) ks l.mark
    unfolding fill_blocks
    full_linked =
        link_on (write_blocks img ks content) ks l.mark l.blocks distinct put_below (omega (arith, right.blocks_most)) right.mark_word
        (omega (arith, length_write img ks content, right.map-low, right.data_some))

    full_written : (b : ℕ) → Data l b → block_at (bytes full) b ≡ block_at (bytes (write_blocks img ks content)) b
    unfolding fill_blocks
    full_written b d =
        tab_cong (bytes (write_blocks img ks content)) (bytes full) (block_offset b) 1024
        (λ i p q. link_outside (write_blocks img ks content) ks l.mark l.blocks i put_below (data_outside b i d p))

    pub stored : Stored l (view_of l (bytes img)) s e ks content (view_of l (bytes (set_entry full (slot_offset l s) e)))
    unfolding set_entry
    stored = record {
      made = entry-same e area full (slot_offset l s) (omega (arith, length-full, right.directory_low, right.data_some)) size start own;
      kept = λ t h ne.
          entry-after full s (entry_bytes e) slot short t ne
          ∙ entry_cong (bytes img) (bytes full) (slot_offset l t) (λ i p q. full_dir i (omega (arith, right.directory_low)) (dir_outside t i h p (omega arith)));
      linked =
          linked_cong (map_at (bytes full)) (map_at (bytes (set_entry full (slot_offset l s) e))) ks l.mark
          (λ b i. map-after full s (entry_bytes e) slot short b (put_below b i)) full_linked;
      other = λ b h o. map-after full s (entry_bytes e) slot short b h ∙ full-map b h o;
      block = λ b d o. block_after full s (entry_bytes e) slot short b d ∙ full_written b d ∙ write_other img ks content b o;
      bytes =
          ap (take (length content))
          (read_cong (block_at (bytes (write_blocks img ks content))) (block_at (bytes (set_entry full (slot_offset l s) e))) ks
          (λ b i. block_after full s (entry_bytes e) slot short b (inside b i) ∙ full_written b (inside b i))
          ∙ write_read img ks content l.blocks distinct put_below (omega arith) enough)
          ∙ take-padded content (1024 * length ks);
    }

    pub put_length : length (set_entry full (slot_offset l s) e) ≡ length img
    unfolding set_entry
    put_length = length-splice full (slot_offset l s) (entry_bytes e) ∙ length-full

    pub put_low : (i : ℕ) → i < l.directory → i < map_offset 0 → bytes (set_entry full (slot_offset l s) e) i ≡ bytes img i
    unfolding set_entry
    put_low i h k = off full s (entry_bytes e) slot short i (inl (omega arith)) ∙ full_dir i (omega (arith, right.map-low)) (inl k)

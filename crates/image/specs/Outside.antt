-- Remove and put change nothing else in the image (document 01, "Calls on an accepted disk"): which bytes they touch, and that every other stays.
-- All that they do is writing at these places, and a write keeps what lies apart from it. Assumes nothing.
use Rattle.std.specs.Prelude.{◌≡◌, true, List, ◌⊎◌, ℕ, ◌+◌, ◌≤◌, ◌<◌, length, replicate}
use Rattle.std.proofs.Common.{◌∙◌, inl, inr, arith}
use Rattle.std.proofs.Math.Decide.{dec_lt}
use Rattle.laws.specs.Reader.{bytes}
use Rattle.laws.specs.Lemmas.Reader.{splice_off}
use Rattle.laws.specs.Member.{In}
use Rattle.layout.specs.declared.Layout.{Layout}
use Rattle.layout.specs.Layouts.{slot_offset, block_offset, map_offset}
use Rattle.layout.specs.Right.{LayoutRight}
use Rattle.blocks.specs.Blocks.{write_blocks}
use Rattle.blocks.specs.Lemmas.Blocks.{write_off}
use Rattle.names.specs.Names.{legal_name}
use Rattle.names.specs.NameLaws.{length-area}
use Rattle.map.specs.Map.{map_at, set_all}
use Rattle.map.specs.Lemmas.Linking.{link_off, set-all_off}
use Rattle.view.specs.Disk.{entry_chain}
use Rattle.image.specs.Image.{entry_at, remove_image, erase_entry, entry_bytes, set_entry, chosen, new_entry, fill_blocks, put_image}
use Rattle.image.specs.Lemmas.Entries.{length-entry}

-- ---- places

-- One of the n bytes from offset a on.
abbrev pub Within : ℕ → ℕ → ℕ → Type 0
Within a n i = (a ≤ i) × (i < a + n)

-- One of a slot's 22 bytes before its identity.
abbrev pub InEntry : Layout → ℕ → ℕ → Type 0
InEntry l s i = Within (slot_offset l s) 22 i

-- One of a slot's 24 bytes.
abbrev pub InSlot : Layout → ℕ → ℕ → Type 0
InSlot l s i = Within (slot_offset l s) 24 i

-- One of the two map bytes of a block.
abbrev pub InMap : ℕ → ℕ → Type 0
InMap b i = Within (map_offset b) 2 i

-- One of a block's bytes.
abbrev pub InBlock : ℕ → ℕ → Type 0
InBlock b i = Within (block_offset b) 1024 i

-- The same of one of these blocks.
abbrev pub Among : List ℕ → (ℕ → ℕ → Type 0) → ℕ → Type 0
Among bs place i = (b : ℕ) × In b bs × place b i

-- Remove touches the slot's bytes before its identity and the map values of its chain.
abbrev pub RemoveTouches : Layout → List ℕ → ℕ → ℕ → Type 0
RemoveTouches l img s i = InEntry l s i ⊎ Among (entry_chain (map_at (bytes img)) (entry_at (bytes img) (slot_offset l s))) InMap i

-- Put touches the slot, and of the blocks that it takes the map values and the bytes.
abbrev pub PutTouches : Layout → List ℕ → ℕ → List ℕ → ℕ → Type 0
PutTouches l img s content i =
    let taken = chosen l (map_at (bytes img)) (length content) in
    InSlot l s i ⊎ (Among taken InMap i ⊎ Among taken InBlock i)

-- ---- all else stays

pub apart : (a n i : ℕ) → (Within a n i → ⊥) → (i < a) ⊎ (a + n ≤ i)
apart a n i out = go (dec_lt i a) (dec_lt i (a + n))
  where
    go : Dec (i < a) → Dec (i < a + n) → (i < a) ⊎ (a + n ≤ i)
    go (yes p) q = inl p
    go (no p) (yes q) = absurd (out (omega arith, q))
    go (no p) (no q) = inr (omega arith)

module _ (l : Layout) (img : List ℕ) (s : ℕ) where
  pub remove_outside : (i : ℕ) → (RemoveTouches l img s i → ⊥) → bytes (remove_image l img s) i ≡ bytes img i
  unfolding remove_image erase_entry
  remove_outside i out =
      let freed = entry_chain (map_at (bytes img)) (entry_at (bytes img) (slot_offset l s)) in
      splice_off (set_all img freed 0) (slot_offset l s) (replicate 22 0) i (apart (slot_offset l s) 22 i (λ p. out (inl p)))
      ∙ set-all_off img freed 0 i (λ b j. apart (map_offset b) 2 i (λ p. out (inr (b, j, p))))

  pub put_outside : LayoutRight l → (name : List ℕ) → legal_name l name ≡ true → (type : ℕ) (content : List ℕ) (i : ℕ) → (PutTouches l img s content i → ⊥)
      → bytes (put_image l img s name type content) i ≡ bytes img i
  unfolding put_image set_entry fill_blocks new_entry
  put_outside right name legal type content i out =
      let m = map_at (bytes img) in
      let taken = chosen l m (length content) in
      let e = new_entry l m name type content in
      splice_off (fill_blocks l img taken content) (slot_offset l s) (entry_bytes e) i
      (rw (length-entry e (length-area l right name legal)) (apart (slot_offset l s) 24 i (λ p. out (inl p))))
      ∙ link_off (write_blocks img taken content) taken l.mark i (λ b j. apart (map_offset b) 2 i (λ p. out (inr (inl (b, j, p)))))
      ∙ write_off img taken content i (λ b j. apart (block_offset b) 1024 i (λ p. out (inr (inr (b, j, p)))))

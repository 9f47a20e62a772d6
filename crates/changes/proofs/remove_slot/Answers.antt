-- `changes::remove_slot` meets its contract: the blocks freed are the entry's chain, and the 22 bytes cleared are the slot's before its identity.
-- The chain is collected before the map changes, so the blocks lent are those of the image as it came. Assumes nothing.
use Rattle.std.proofs.Common.{◌≡◌, ◌∙◌, refl, List, ℕ, arith, replicate}
use Rattle.blocks.specs.Blocks.{links_for}
use Rattle.changes.specs.Lemmas.Lent.{slice-all}
use Rattle.image.specs.Image.{view_of, erase_entry, remove_image}
use Rattle.laws.specs.Reader.{bytes}
use Rattle.laws.specs.Splice.{splice}
use Rattle.layout.specs.Layouts.{slot_offset}
use Rattle.layout.specs.declared.Layout.{Layout}
use Rattle.map.specs.Lemmas.Chains.{chain_data}
use Rattle.map.specs.Map.{map_at, chain, Chained, set_all}
use Rattle.view.specs.Disk.{entry_chain}
use Rattle.changes.proofs.remove_slot.Goals as goal

-- the chain from the length and start that were read
chained : (l : Layout) (img : List ℕ) (s : ℕ) {size start : ℕ} → size ≡ ((view_of l (bytes img)).entry s).size → start ≡ ((view_of l (bytes img)).entry s).start
    → Chained l (map_at (bytes img)) (links_for ((view_of l (bytes img)).entry s).size) ((view_of l (bytes img)).entry s).start → Chained l (map_at (bytes img)) (links_for size) start
chained l img s p q c = rw (p, q) c

-- what is left once the blocks of that chain are free and the slot is cleared
erased : (l : Layout) (img : List ℕ) (s : ℕ) {size start : ℕ} {lent one two : List ℕ} → size ≡ ((view_of l (bytes img)).entry s).size → start ≡ ((view_of l (bytes img)).entry s).start
    → lent ≡ chain (map_at (bytes img)) (links_for size) start → one ≡ set_all img lent 0 → two ≡ splice one (slot_offset l s) (replicate 22 0) → two ≡ remove_image l img s
unfolding remove_image erase_entry entry_chain
erased l img s p q e f g = rw (g, f, e, p, q) refl

pub clear_blocks-requires : goal.clear_blocks-requires
clear_blocks-requires c =
    let whole = chained c.args.layout c.args.image.now c.args.slot c.size_of-size.ensures c.start_of-start.ensures c.requires.4 in (
      omega (arith, c.requires.0.map-low, c.requires.0.data_some, c.requires.1),
      λ b i. (chain_data c.args.layout c.requires.0 (map_at (bytes c.args.image.now)) _ _ b whole (rw (c.as_slice.ensures ∙ slice-all _ c.chain_blocks-owned.result c.chain_blocks-owned.ensures) at i)).1,
    )

pub returns : goal.returns
returns c =
    let lent = c.as_slice.ensures ∙ slice-all _ c.chain_blocks-owned.result c.chain_blocks-owned.ensures in
    erased c.args.layout c.args.image.now c.args.slot c.size_of-size.ensures c.start_of-start.ensures lent
    c.clear_blocks.ensures c.clear.ensures

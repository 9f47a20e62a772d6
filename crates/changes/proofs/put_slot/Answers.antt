-- `changes::put_slot` meets its contract: the blocks lent to each step are the lowest free ones, as many as the content needs.
-- They are collected before the image changes, so every step says what it does to the same list of blocks. Assumes nothing.
use Rattle.std.proofs.Common.{◌≡◌, refl, sym, ap, ◌∙◌, List, ℕ, ◌-◌, ◌<◌, arith, length, take, get_or, length-take-le}
use Rattle.blocks.specs.Blocks.{blocks_for, write_blocks}
use Rattle.changes.specs.Changes.{entry_with, put_area, Puttable}
use Rattle.changes.specs.Lemmas.Lent.{slice-all}
use Rattle.image.specs.Image.{set_entry, fill_blocks, chosen}
use Rattle.laws.specs.Lemmas.Member.{in_take}
use Rattle.laws.specs.Member.{In}
use Rattle.laws.specs.Reader.{bytes}
use Rattle.layout.specs.Layouts.{slot_offset}
use Rattle.layout.specs.Right.{LayoutRight}
use Rattle.layout.specs.declared.Layout.{Layout}
use Rattle.map.specs.Lemmas.Free.{in_free}
use Rattle.map.specs.Lemmas.Linking.{first_there}
use Rattle.map.specs.Map.{map_at, free_blocks, link_blocks, Collected}
use Rattle.std.specs.Int.{div_ceil}
use Rattle.map.specs.declared.collection.Blocks.{Blocks}
use Rattle.changes.proofs.put_slot.Goals as goal

free_below : (l : Layout) (m : ℕ → ℕ) (n b : ℕ) → LayoutRight l → In b (take n (free_blocks l m)) → b < l.blocks
unfolding free_blocks
free_below l m n b right i = omega (arith, (in_free m l.first (l.blocks - l.first) b (in_take n (free_blocks l m) b i)).1, right.data_some)

-- what is known of the blocks lent
record Lent (l : Layout) (img content lent : List ℕ) : Type 0 where
  same : lent ≡ take (blocks_for (length content)) (free_blocks l (map_at (bytes img)))
  count : length lent ≡ blocks_for (length content)
  some : 0 < length lent
  below : (b : ℕ) → In b lent → b < l.blocks

lent_of : (l : Layout) (img : List ℕ) (s : ℕ) (content : List ℕ) (r : Blocks) {n : ℕ} {lent : List ℕ} → Puttable l img s content → n ≡ div_ceil (length content) 1024
    → Collected (take n (free_blocks l (map_at (bytes img)))) r → lent ≡ take r.count r.list → Lent l img content lent
lent_of l img s content r {n} {lent} p wanted found e =
    let m = map_at (bytes img) in
    let enough : n ≡ blocks_for (length content) = wanted ∙ omega arith in
    let same : lent ≡ take (blocks_for (length content)) (free_blocks l m) = e ∙ slice-all _ r found ∙ ap (λ (k : ℕ). take k (free_blocks l m)) enough in
    let count : length lent ≡ blocks_for (length content) = ap length same ∙ length-take-le (blocks_for (length content)) (free_blocks l m) p.room in
    record {
      same = same;
      count = count;
      some = omega (arith, p.some_content);
      below = λ b i. free_below l m (blocks_for (length content)) b p.right (rw same at i);
    }

-- what is left once they are written and linked and the entry names the first
left : (l : Layout) (img : List ℕ) (s : ℕ) (area : List ℕ) (type : ℕ) (content : List ℕ) {lent one two three : List ℕ} {start : ℕ} → Lent l img content lent
    → one ≡ write_blocks img lent content → two ≡ link_blocks one lent l.mark → start ≡ get_or lent 0 0
    → three ≡ set_entry two (slot_offset l s) (entry_with area type (length content) start l.identity) → three ≡ put_area l img s area type content
unfolding put_area fill_blocks chosen
left l img s area type content {lent} k p q r t = rw (t, q, p, r, ← first_there lent 0 0 k.some, k.same) refl

pub write_blocks-requires : goal.write_blocks-requires
write_blocks-requires c =
    let found = lent_of c.args.layout c.args.image.now c.args.slot c.args.content.now c.free_blocks-free.result c.requires c.div_ceil.ensures c.free_blocks-free.ensures c.as_slice-chosen.ensures in
    (c.requires.whole, c.requires.right.blocks_most, found.below, sym found.count)

pub link_blocks-requires : goal.link_blocks-requires
link_blocks-requires c =
    let found = lent_of c.args.layout c.args.image.now c.args.slot c.args.content.now c.free_blocks-free.result c.requires c.div_ceil.ensures c.free_blocks-free.ensures c.as_slice-chosen.ensures in
    (omega (arith, c.write_blocks.auto, c.requires.whole, c.requires.right.map-low, c.requires.right.data_some), found.below)

pub block_of-start-requires : goal.block_of-start-requires
block_of-start-requires c =
    let found = lent_of c.args.layout c.args.image.now c.args.slot c.args.content.now c.free_blocks-free.result c.requires c.div_ceil.ensures c.free_blocks-free.ensures c.as_slice-chosen.ensures in
    (found.some, found.below)

pub returns : goal.returns
returns c =
    let found = lent_of c.args.layout c.args.image.now c.args.slot c.args.content.now c.free_blocks-free.result c.requires c.div_ceil.ensures c.free_blocks-free.ensures c.as_slice-chosen.ensures in
    let a = c.args in
    left a.layout a.image.now a.slot a.area a.letter a.content.now found c.write_blocks.ensures c.link_blocks.ensures
    c.block_of-start.ensures.0 c.write_entry.ensures

-- A page's bytes and cost: a part of a content is that part of its chain's blocks, and written to the front of the output it leaves the rest; the
-- chain has as many blocks as the file. By the laws of parts and splices. Assumes nothing.
use Rattle.std.specs.Prelude.{◌≡◌, refl, Bool, true, List, ◌++◌, ℕ, ◌+◌, ◌-◌, ◌/◌, ◌≤◌, ◌<◌, min, eqb, take, drop, Ok}
use Rattle.std.proofs.Common.{sym, ap, ◌∙◌, arith, lt-ltb, le-ltb, length-take-le, get_or-take}
use Rattle.std.proofs.Math.Option.{Option, none, some}
use Rattle.std.proofs.Math.ListN.{length, length-take}
use Rattle.std.proofs.lemmas.List.Edits.{sets-eq}
use Rattle.laws.specs.Splice.{splice, part}
use Rattle.laws.specs.Lemmas.Splice.{length_part}
use Rattle.laws.proofs.Lemmas.Splice.{part_ext}
use Rattle.laws.specs.Reader.{bytes}
use Rattle.laws.specs.Lemmas.Reader.{length-tab}
use Rattle.layout.specs.declared.Layout.{Layout}
use Rattle.layout.specs.Layouts.{block_offset}
use Rattle.layout.specs.Right.{LayoutRight}
use Rattle.blocks.specs.Blocks.{blocks_for, read_blocks, block_at}
use Rattle.map.specs.Map.{map_at, chain, Chained}
use Rattle.view.specs.Disk.{File, used, entry_chain, content_of}
use Rattle.view.specs.Lemmas.Counting.{entry-size}
use Rattle.image.specs.Image.{view_of, DiskRules}
use Rattle.record.specs.Record.{paged, refused, paging}
use Rattle.rules.specs.Check.{came}
use Rattle.pages.specs.declared.Cost.{Cost}
use Rattle.pages.specs.Cost.{cost_of, cost_none}
use Rattle.calls.specs.declared.Metered.{Metered}
use Rattle.calls.specs.Answers.{paged_of, unpaged_by}
use Rattle.calls.specs.Metered.{page_cost}
use Rattle.calls.specs.Lemmas.Slots.{slot_file, file-length}
use Rattle.laws.specs.Refusals.{refusal_at}

-- a part that lies in the front
pub part-take : (l : List ℕ) (size from n : ℕ) → from + n ≤ size → size ≤ length l → part (take size l) from n ≡ part l from n
part-take l size from n h k =
    part_ext (take size l) l from from n (omega (arith, length-take-le size l k)) (omega arith) (λ i p. get_or-take size l (from + i) 0 (omega arith))

-- a write to the front
pub splice_front : (l vs : List ℕ) (n : ℕ) → length vs ≡ n → n ≤ length l → splice l 0 vs ≡ vs ++ drop n l
unfolding splice
splice_front l vs n e h =
    sets-eq vs l 0 (omega arith) ∙ ap (λ (k : ℕ). vs ++ drop k l) (let z : 0 + length vs ≡ n = omega arith in z)

-- ---- what page comes to

-- no file, an offset above the length, and a page; o is the output as it was lent, q afterwards
module _ (img : List ℕ) (w : Option File) (offset : ℕ) (o : List ℕ) where
  pages_none : {q : List ℕ} → w ≡ none → q ≡ o → came (refused 10 0) q img ≡ paging img w offset o
  pages_none e p = rw (e, p) refl

  pages_above : (f : File) (size : ℕ) {q : List ℕ} → w ≡ some f → length f.content ≡ size → size < offset → q ≡ o → came (refused 17 0) q img ≡ paging img w offset o
  pages_above f size e n h p = rw (e, p, lt-ltb (length f.content) offset (omega arith)) refl

  pages_file : (f : File) (size count : ℕ) {end : Bool} {q : List ℕ} → w ≡ some f → length f.content ≡ size → offset ≤ size → count ≡ min (length o) (size - offset)
      → end ≡ eqb (offset + count) size → q ≡ splice o 0 (part f.content offset count) → came (paged count end) q img ≡ paging img w offset o
  pages_file f size count e n h k t p =
      let whole : length f.content ≡ size = n in
      let front : splice o 0 (part f.content offset count) ≡ part f.content offset count ++ drop count o =
      splice_front o (part f.content offset count) count (length_part f.content offset count (omega arith)) (omega arith) in
      rw (e, le-ltb (length f.content) offset (omega arith), p, front, t, n, k) refl

  -- the same with what it cost
  abbrev Due : Metered → List ℕ → Type 0
  Due r q = (came (paged_of r.paged) q img ≡ paging img w offset o) × (r.cost ≡ page_cost w offset (length o))

  pub meters_none : (r : Metered) {q : List ℕ} → w ≡ none → r ≡ unpaged_by (refusal_at 10 0) → q ≡ o → Due r q
  meters_none r e t p = rw t (pages_none e p, rw e refl)

  pub meters_above : (r : Metered) (f : File) (size : ℕ) {q : List ℕ} → w ≡ some f → length f.content ≡ size → size < offset → r ≡ unpaged_by (refusal_at 17 0) → q ≡ o → Due r q
  meters_above r f size e n h t p =
      rw t (pages_above f size e n h p, rw e (sym (cost_none (blocks_for (length f.content)) offset (min (length o) (length f.content - offset)) (omega arith))))

  pub meters_file : (f : File) (size count : ℕ) {end : Bool} {cost : Cost} {q : List ℕ} → w ≡ some f → length f.content ≡ size → 1 ≤ size → offset ≤ size → count ≡ min (length o) (size - offset)
      → end ≡ eqb (offset + count) size → q ≡ splice o 0 (part f.content offset count) → cost ≡ cost_of ((size - 1) / 1024 + 1) offset count → Due (record { paged = Ok (record { count = count; end = end }); cost = cost }) q
  meters_file f size count e n least h k t p v =
      let b : (size - 1) / 1024 + 1 ≡ blocks_for (length f.content) = omega arith in
      let r : min (length o) (size - offset) ≡ min (length o) (length f.content - offset) = omega arith in
      (pages_file f size count e n h k t p, rw e (v ∙ rw (k, r, b) refl))

-- ---- a used slot's chain and bytes, size and start being its entry's

module _ (l : Layout) (right : LayoutRight l) (img : List ℕ) (rules : DiskRules l img) (s : ℕ) (inside : s < l.slots)
    (here : used ((view_of l (bytes img)).entry s) ≡ true) {size : ℕ} (sized : size ≡ ((view_of l (bytes img)).entry s).size) where
  pub size_some : 1 ≤ size
  size_some = rw sized (entry-size l right (view_of l (bytes img)) rules.valid (λ b d. length-tab (bytes img) (block_offset b) 1024) s (inside, here))

  pub content-size : length (slot_file l img s).content ≡ size
  content-size = file-length l img s right rules inside here ∙ sym sized

  module _ {start : ℕ} (starts : start ≡ ((view_of l (bytes img)).entry s).start) where
    pub slot_chained : Chained l (map_at (bytes img)) ((size - 1) / 1024) start
    slot_chained = rw (sized, starts) (rules.valid.linked s (inside, here))

    -- the file's bytes are its chain's
    pub page-bytes : (offset count : ℕ) → offset + count ≤ size
        → part (read_blocks (block_at (bytes img)) (chain (map_at (bytes img)) ((size - 1) / 1024) start)) offset count ≡ part (slot_file l img s).content offset count
    unfolding content_of
    page-bytes offset count h =
        let e = (view_of l (bytes img)).entry s in
        let whole = read_blocks (block_at (bytes img)) (entry_chain (map_at (bytes img)) e) in
        let n : length (take e.size whole) ≡ e.size = file-length l img s right rules inside here in
        rw (sized, starts) (sym (part-take whole e.size offset count (omega (arith, sized)) (omega (arith, length-take e.size whole))))

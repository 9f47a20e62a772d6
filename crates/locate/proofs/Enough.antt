-- What a caller must fetch of an image: what the check reads, which lies in its first 17,408 bytes, for every answer but a page's bytes, and for those the
-- file's own blocks. Entries and chains agree where directory and map do; a content is read from its chain's blocks alone. Assumes nothing.
use Rattle.std.specs.Prelude.{◌≡◌, Bool, ℕ, ◌<◌, ltb, length, take, Ok, Err}
use Rattle.std.proofs.Math.Path.{refl, ap}
use Rattle.std.proofs.Common.{sym, ◌∙◌, arith, lt-ltb, ltb-false}
use Rattle.std.proofs.Math.Bool.{true, false}
use mathlib.Core.List.{List, [], ◌∷◌}
use Rattle.std.proofs.Math.Option.{Option, none, some}
use Rattle.std.proofs.Math.Decide.{dec_lt}
use Rattle.laws.specs.Member.{In}
use Rattle.laws.specs.Splice.{part}
use Rattle.laws.proofs.Lemmas.Splice.{part-splice}
use Rattle.laws.specs.Reader.{bytes}
use Rattle.layout.specs.declared.Kind.{Kind}
use Rattle.layout.specs.declared.Density.{Density}
use Rattle.layout.specs.declared.Layout.{Layout}
use Rattle.layout.specs.Layouts.{layout_of}
use Rattle.blocks.specs.Blocks.{block_at}
use Rattle.blocks.specs.Lemmas.Blocks.{read_cong}
use Rattle.map.specs.Map.{map_at}
use Rattle.view.specs.Disk.{File, used, entry_chain, chain_of, content_of}
use Rattle.image.specs.Image.{view_of, files_in}
use Rattle.record.specs.Record.{page, Outcome, file_at, paging}
use Rattle.rules.specs.Check.{check_of, Checked, accepting}
use Rattle.calls.specs.Lemmas.Slots.{file_above, file_empty, file-used}
use Rattle.calls.specs.Lemmas.Done.{page-done}
use Rattle.locate.specs.Locate.{file_blocks, storing, blocks_of}
use Rattle.locate.specs.Enough.{SameRead, given, no_room, Alike, check_same, entry-same, chain_same, refused_alike}

module _ (x y : List ℕ) (same : SameRead x y) where
  -- ---- accepted images

  module _ {k : Kind} {d : Density} {f n : ℕ} (yes-x : check_of x ≡ accepting k d f n) where
    abbrev l : Layout
    l = layout_of k d

    -- a file's content, where y holds the slot's blocks
    module _ (s : ℕ) (held : (b : ℕ) → In b (file_blocks l x s) → block_at (bytes y) b ≡ block_at (bytes x) b) where
      content-same : s < l.slots → used ((view_of l (bytes x)).entry s) ≡ true
          → content_of (view_of l (bytes y)) ((view_of l (bytes y)).entry s) ≡ content_of (view_of l (bytes x)) ((view_of l (bytes x)).entry s)
      unfolding content_of file_blocks chain_of
      content-same h u =
          rw (chain_same x y same yes-x s h u, entry-same x y same yes-x s h)
          (ap (take ((view_of l (bytes x)).entry s).size)
          (read_cong (block_at (bytes x)) (block_at (bytes y)) (entry_chain (map_at (bytes x)) ((view_of l (bytes x)).entry s)) (λ b i. held b (rw (lt-ltb s l.slots h, u) i))))

      file_by : Dec (s < l.slots) → (u : Bool) → used ((view_of l (bytes x)).entry s) ≡ u → file_at l (files_in l y) s ≡ file_at l (files_in l x) s
      file_by (no h) u e = rw (file_above l y s (omega arith), file_above l x s (omega arith)) refl
      file_by (yes h) false e = rw (file_empty l y s h (ap used (entry-same x y same yes-x s h) ∙ e), file_empty l x s h e) refl
      file_by (yes h) true e = rw (file-used l y s h (ap used (entry-same x y same yes-x s h) ∙ e), file-used l x s h e, content-same h e, entry-same x y same yes-x s h) refl

-- ---- what an answer doesn't take from the image

paging_by : (x y : List ℕ) (w : Option File) (offset : ℕ) (out : List ℕ)
    → ((paging y w offset out).answer ≡ (paging x w offset out).answer) × ((paging y w offset out).output ≡ (paging x w offset out).output)
paging_by x y none offset out = (refl, refl)
paging_by x y (some f) offset out = go (ltb (length f.content) offset) refl
  where
    go : (t : Bool) → ltb (length f.content) offset ≡ t
        → ((paging y (some f) offset out).answer ≡ (paging x (some f) offset out).answer) × ((paging y (some f) offset out).output ≡ (paging x (some f) offset out).output)
    go true e = rw e (refl, refl)
    go false e = rw e (refl, refl)

-- the blocks given are those stored, unless there was no room
given-all : (blocks room : List ℕ) → ((storing blocks room).answer ≡ no_room → ⊥) → given (storing blocks room) ≡ blocks
unfolding part
given-all [] room n = refl
given-all (b ∷ bs) room n = go (ltb (length room) (length (b ∷ bs))) refl
  where
    go : (t : Bool) → ltb (length room) (length (b ∷ bs)) ≡ t → given (storing (b ∷ bs) room) ≡ b ∷ bs
    go true e = absurd (n (rw e refl))
    go false e = rw e (part-splice room 0 (b ∷ bs) (omega (arith, ltb-false (length room) (length (b ∷ bs)) e)))

-- ---- the theorems: y has what the check of x reads

module _ (x y : List ℕ) (same : SameRead x y) where
  -- A page needs the blocks besides that such a call gave, to an output with room for them.
  pub page_enough : (s : ℕ) (room : List ℕ) → ((blocks_of x s room).answer ≡ no_room → ⊥)
      → ((b : ℕ) → In b (given (blocks_of x s room)) → block_at (bytes y) b ≡ block_at (bytes x) b)
      → (offset : ℕ) (out : List ℕ) → Alike x y (page s offset out)
  unfolding blocks_of
  page_enough s room fits held offset out = go (check_of x) refl
    where
      go : (c : Checked) → check_of x ≡ c → Alike x y (page s offset out)
      go (Err r) e = refused_alike x y same e (page s offset out) (λ z q. refl)
      go (Ok disk) e =
          let l = layout_of disk.kind disk.density in
          let a = page-done x refl e refl s offset out in
          let b = page-done y refl (check_same x y same ∙ e) refl s offset out in
          let all = given-all (file_blocks l x s) room (rw e at fits) in
          let file = file_by x y same e s (λ b i. (rw e at held) b (rw all i)) (dec_lt s l.slots) (used ((view_of l (bytes x)).entry s)) refl in
          let p = paging_by x y (file_at l (files_in l x) s) offset out in
          record {
            answer = ap (λ (o : Outcome (List ℕ)). o.answer) (sym b) ∙ rw file p.0 ∙ ap (λ (o : Outcome (List ℕ)). o.answer) a;
            output = ap (λ (o : Outcome (List ℕ)). o.output) (sym b) ∙ rw file p.1 ∙ ap (λ (o : Outcome (List ℕ)). o.output) a;
          }

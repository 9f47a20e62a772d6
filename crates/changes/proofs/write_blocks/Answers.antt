-- `changes::write_blocks` meets its contract: writing what remains of the content to what remains of the blocks makes what writing all of it makes.
-- Each turn lends one block's part, which comes back as a splice of the content's next 1,024 bytes and zeros. Assumes nothing.
use Rattle.std.proofs.Common.{◌≡◌, refl, sym, ap, ◌∙◌, inl, inr, ⊎_elim, List, [], ◌∷◌, ◌++◌, ℕ, ◌+◌, ◌-◌, ◌*◌, ◌≤◌, ◌<◌, min, arith, length, take, drop, append-nil, take_all, drop_of_length-le, length-append}
use Rattle.std.proofs.Math.Decide.{dec_lt}
use Rattle.std.proofs.Math.Seq.{take_at, drop_at}
use Rattle.std.specs.Iterator.Adapters.{zip_first, zip_second}
use Rattle.std.specs.Slice.Iter.{iter_rest, chunks_rest, chunks_size}
use Rattle.blocks.specs.Blocks.{write_blocks}
use Rattle.laws.specs.Lemmas.Padded.{length-padded}
use Rattle.laws.specs.Lemmas.Splice.{lent_back, length-lent}
use Rattle.laws.specs.Member.{In}
use Rattle.laws.specs.Padded.{padded}
use Rattle.laws.specs.Splice.{splice}
use Rattle.changes.proofs.write_blocks.Goals as goal

-- the first 1,024 bytes of a content, or all of a shorter one, and what remains
front : (part rest : List ℕ) → length part ≡ min 1024 (length (part ++ rest)) → (take 1024 (part ++ rest) ≡ part) × (drop 1024 (part ++ rest) ≡ rest)
front part rest n = go (dec_lt (length part) 1024) rest n
  where
    go : Dec (length part < 1024) → (rest : List ℕ) → length part ≡ min 1024 (length (part ++ rest)) → (take 1024 (part ++ rest) ≡ part) × (drop 1024 (part ++ rest) ≡ rest)
    go (yes h) [] n = let short : length part ≤ 1024 = omega arith in rw (append-nil part) (take_all 1024 part short, drop_of_length-le part short)
    go (yes h) (b ∷ bs) n = absurd (omega (arith, length-append part (b ∷ bs)))
    go (no h) bs n =
        let e : length part ≡ 1024 = omega (arith, length-append part bs) in (take_at part bs 1024 e, drop_at part bs 1024 e)

-- one block more, with the content's next part
write_next : (img : List ℕ) (k : ℕ) (part ks left content rest : List ℕ) → ks ≡ k ∷ left → content ≡ part ++ rest → length part ≡ min 1024 (length content)
    → write_blocks img ks content ≡ write_blocks (splice img (1024 * k) (padded part 1024)) left rest
unfolding write_blocks
write_next img k part ks left content rest e f n =
    let p = front part rest (n ∙ ap (λ (xs : List ℕ). min 1024 (length xs)) f) in
    rw (e, f, p.0, p.1) refl

-- no block remains
write_end : (img ks content : List ℕ) → length ks ≡ 0 → write_blocks img ks content ≡ img
unfolding write_blocks
write_end img [] content h = refl
write_end img (k ∷ ks) content h = absurd (omega arith)

-- what a block's lent part leaves of the whole, where the block writer says what it wrote
block_back : (img : List ℕ) (at : ℕ) (bytes : List ℕ) {ys : List ℕ} → at + 1024 ≤ length img → length bytes ≤ 1024
    → ys ≡ padded bytes (length (take (at + 1024 - at) (drop at img)))
    → take at img ++ (ys ++ drop (at + 1024 - at) (drop at img)) ≡ splice img at (padded bytes 1024)
block_back img at bytes h k w =
    let n : length (take (at + 1024 - at) (drop at img)) ≡ 1024 = length-lent img at (at + 1024) h ∙ omega arith in
    lent_back img at (at + 1024) (padded bytes 1024) (omega arith) h (length-padded bytes 1024 k ∙ omega arith) (w ∙ rw n)

-- a block is one of those that remain
first_below : (k end : ℕ) (ks left : List ℕ) → ks ≡ k ∷ left → ((b : ℕ) → In b ks → b < end) → k < end
first_below k end ks left e h = (rw e at h) k (inl refl)

pub loop-block-init : goal.loop-block-init
loop-block-init c =
    let size : chunks_size (zip_second c.into_iter-block-iterator.result) ≡ 1024 = cc in
    let first : iter_rest (zip_first c.into_iter-block-iterator.result) ≡ c.args.chosen.now = cc in
    let second : chunks_rest (zip_second c.into_iter-block-iterator.result) ≡ c.args.content.now = cc in
    record {
      can = (tt, omega arith);
      finite = tt;
      size = size;
      inside = λ b i. c.requires.2 b (rw first at i);
      enough = rw (first, second) c.requires.3;
      rest = rw (first, second) refl;
    }

pub overflow_mul-at : goal.overflow_mul-at
overflow_mul-at c = omega (arith, c.from-at.ensures, first_below _ _ _ _ c.in-Some.ensures.steps.0 c.loop-block.invariant.inside, c.requires.1)

pub overflow_add-at : goal.overflow_add-at
overflow_add-at c = omega (arith, c.from-at.ensures, first_below _ _ _ _ c.in-Some.ensures.steps.0 c.loop-block.invariant.inside, c.requires.1)

pub slice_bounds-write_block-end : goal.slice_bounds-write_block-end
slice_bounds-write_block-end c = omega (arith, c.from-at.ensures, first_below _ _ _ _ c.in-Some.ensures.steps.0 c.loop-block.invariant.inside, c.requires.0)

pub loop-block-preserved : goal.loop-block-preserved
loop-block-preserved c =
    let l = c.loop-block in
    let s = c.in-Some.ensures.steps in
    let bytes : List ℕ = c.in-Some.part.now in
    let size : length bytes ≡ min 1024 (length (chunks_rest (zip_second l.block-iterator))) = s.1.1.1 ∙ rw l.invariant.size in
    let low = first_below _ _ _ _ s.0 l.invariant.inside in
    let back = block_back l.image (1024 * c.from-at.result) bytes (omega (arith, low, c.from-at.ensures, c.requires.0)) (omega arith) c.write_block.ensures in
    record {
      can = (tt, omega (arith, s.1.0));
      finite = tt;
      size = s.1.0 ∙ l.invariant.size;
      inside = λ b i. l.invariant.inside b (rw s.0 (inr i));
      enough = omega (arith, l.invariant.enough, ap length s.0, ap length s.1.1.0, s.1.1.2, length-append bytes (chunks_rest (zip_second c.next.new.self)));
      rest = rw (back, c.from-at.ensures) (sym (write_next l.image _ bytes _ _ _ _ s.0 s.1.1.0 size) ∙ l.invariant.rest);
    }

pub returns : goal.returns
returns c =
    let l = c.loop-block in
    sym (write_end l.image _ _ (⊎_elim (λ u. u.1.0) (λ u. omega (arith, u.1.1.0, l.invariant.enough)) c.in-None.ensures.steps)) ∙ l.invariant.rest

-- Blocks of 1,024 bytes: how many a content needs, their bytes in order, and content written to them.
-- By induction on the list of blocks; a block's bytes come from the splice laws. Assumes nothing.
use Rattle.std.specs.Prelude.{◌≡◌, refl, List, [], ◌∷◌, ◌++◌, ◌⊎◌, ℕ, suc, ◌+◌, ◌*◌, ◌≤◌, ◌<◌, length, take, drop}
use Rattle.std.proofs.Common.{sym, ap, ap₂, ◌∙◌, inl, inr, arith, length-append, length-take, length-drop}
use Rattle.std.proofs.Math.Decide.{dec_lt}
use Rattle.laws.specs.Splice.{splice}
use Rattle.laws.specs.Lemmas.Splice.{get_or-splice_in, length-splice}
use Rattle.laws.specs.Padded.{padded}
use Rattle.laws.specs.Lemmas.Padded.{length-padded, padded_nil, padded_cut}
use Rattle.laws.specs.Reader.{bytes, tab}
use Rattle.laws.specs.Lemmas.Reader.{tab_is, tab_cong, splice_off}
use Rattle.laws.specs.Member.{In, Distinct}
use Rattle.layout.specs.Layouts.{block_offset}
use Rattle.blocks.specs.Blocks.{block_at, read_blocks, block_of, write_blocks}

-- ---- reading

pub read_cong : (f g : ℕ → List ℕ) (ks : List ℕ) → ((k : ℕ) → In k ks → g k ≡ f k) → read_blocks g ks ≡ read_blocks f ks
unfolding read_blocks
read_cong f g [] h = refl
read_cong f g (k ∷ ks) h = rw (h k (inl refl), read_cong f g ks (λ x i. h x (inr i))) refl

pub length-read : (f : ℕ → List ℕ) (ks : List ℕ) → ((k : ℕ) → In k ks → length (f k) ≡ 1024) → length (read_blocks f ks) ≡ 1024 * length ks
unfolding read_blocks
length-read f [] h = refl
length-read f (k ∷ ks) h = length-append (f k) (read_blocks f ks) ∙ omega (arith, h k (inl refl), length-read f ks (λ x i. h x (inr i)))

-- ---- writing

pub length_write : (img ks content : List ℕ) → length (write_blocks img ks content) ≡ length img
unfolding write_blocks
length_write img [] content = refl
length_write img (k ∷ ks) content = length_write (splice img (block_offset k) (block_of content)) ks _ ∙ length-splice img (block_offset k) (block_of content)

length_block : (content : List ℕ) → length (block_of content) ≡ 1024
length_block content = length-padded (take 1024 content) 1024 (omega (arith, length-take 1024 content))

block_off : (img : List ℕ) (k : ℕ) (content : List ℕ) (i : ℕ) → (i < block_offset k) ⊎ (block_offset k + 1024 ≤ i) → bytes (splice img (block_offset k) (block_of content)) i ≡ bytes img i
block_off img k content i h = splice_off img (block_offset k) (block_of content) i (rw (length_block content) h)

-- a byte apart from the blocks is kept
pub write_off : (img ks content : List ℕ) (i : ℕ) → ((k : ℕ) → In k ks → (i < block_offset k) ⊎ (block_offset k + 1024 ≤ i)) → bytes (write_blocks img ks content) i ≡ bytes img i
unfolding write_blocks
write_off img [] content i h = refl
write_off img (k ∷ ks) content i h =
    write_off (splice img (block_offset k) (block_of content)) ks _ i (λ x j. h x (inr j)) ∙ block_off img k content i (h k (inl refl))

-- below the blocks nothing changes
pub write_low : (img ks content : List ℕ) (first i : ℕ) → ((k : ℕ) → In k ks → first ≤ k) → i < block_offset first → bytes (write_blocks img ks content) i ≡ bytes img i
write_low img ks content first i h p = write_off img ks content i (λ k j. inl (omega (arith, h k j)))

-- two blocks that differ lie apart
apart_by : (c k i : ℕ) → (c ≡ k → ⊥) → Dec (c < k) → block_offset c ≤ i → i < block_offset c + 1024 → (i < block_offset k) ⊎ (block_offset k + 1024 ≤ i)
apart_by c k i n (yes p) x y = inl (omega arith)
apart_by c k i n (no p) x y = inr (omega arith)

-- a block that isn't written keeps its bytes
pub write_other : (img ks content : List ℕ) (c : ℕ) → (In c ks → ⊥) → block_at (bytes (write_blocks img ks content)) c ≡ block_at (bytes img) c
write_other img ks content c n =
    tab_cong (bytes img) (bytes (write_blocks img ks content)) (block_offset c) 1024
    (λ i x y. write_off img ks content i (λ k j. apart_by c k i (λ e. n (rw e j)) (dec_lt c k) x y))

block_same : (img : List ℕ) (k : ℕ) (content : List ℕ) → block_offset k + 1024 ≤ length img → block_at (bytes (splice img (block_offset k) (block_of content))) k ≡ block_of content
block_same img k content h =
    let vs : List ℕ = block_of content in
    ap (tab (bytes (splice img (block_offset k) vs)) (block_offset k)) (sym (length_block content))
    ∙ tab_is (bytes (splice img (block_offset k) vs)) (block_offset k) vs (λ i p. get_or-splice_in img (block_offset k) vs i (omega (arith, length_block content)) p)

-- the blocks written hold the content and then zeros
pub write_read : (img ks content : List ℕ) (n : ℕ) → Distinct ks → ((k : ℕ) → In k ks → k < n) → block_offset n ≤ length img → length content ≤ 1024 * length ks
    → read_blocks (block_at (bytes (write_blocks img ks content))) ks ≡ padded content (1024 * length ks)
unfolding write_blocks read_blocks
write_read img [] [] n d h s l = sym (padded_nil 0)
write_read img [] (x ∷ c) n d h s l = absurd (omega arith)
write_read img (k ∷ ks) content n d h s l =
    let one : List ℕ = splice img (block_offset k) (block_of content) in
    let low : k < n = h k (inl refl) in
    let e : 1024 + 1024 * length ks ≡ 1024 * suc (length ks) = omega arith in
    ap₂ (λ (xs ys : List ℕ). xs ++ ys) (write_other one ks (drop 1024 content) k d.0 ∙ block_same img k content (omega arith))
    (write_read one ks (drop 1024 content) n d.1 (λ x i. h x (inr i)) (omega (arith, length-splice img (block_offset k) (block_of content))) (omega (arith, length-drop 1024 content)))
    ∙ padded_cut 1024 content (1024 * length ks)
    ∙ ap (padded content) e

-- `pages::page_runs` meets its contract: after each run the output's front holds the page's first `done` bytes, and the cost is that of so many.
-- A run lies in one block of the chain, so it is a part of that block of the image, and the next one begins a block. Assumes nothing.
use Rattle.pages.proofs.page_runs.Invariants.{page}
use Rattle.std.proofs.Common.{◌≡◌, refl, sym, ap, ◌∙◌, List, [], ◌∷◌, ◌++◌, ℕ, zero, suc, ◌+◌, ◌-◌, ◌*◌, ◌/◌, ◌%◌, ◌≤◌, ◌<◌, arith, length, drop, get_or, length-drop, take_all}
use Rattle.blocks.specs.Blocks.{read_blocks, block_at}
use Rattle.blocks.specs.Lemmas.Blocks.{length-read}
use Rattle.laws.specs.Lemmas.Reader.{length-tab}
use Rattle.laws.proofs.Lemmas.Reader.{tab-part}
use Rattle.laws.specs.Lemmas.Splice.{splice_none, length_part, length-splice}
use Rattle.laws.proofs.Lemmas.Splice.{splice-turns, part-part}
use Rattle.laws.specs.Reader.{bytes}
use Rattle.laws.specs.Splice.{splice, part}
use Rattle.layout.specs.Layouts.{image_length}
use Rattle.layout.specs.Right.{LayoutRight}
use Rattle.layout.specs.declared.Layout.{Layout}
use Rattle.map.specs.Lemmas.Chains.{length-chain, chain_short, nth_first, nth_data, chained_from, nth_from}
use Rattle.map.specs.Map.{map_at, Fits, Data, chain, Chained}
use Rattle.pages.specs.Cost.{cost_of}
use Rattle.pages.specs.Lemmas.Growing.{cost_low, cost_few}
use Rattle.pages.proofs.Lemmas.Growing.{run_links, run_runs}
use lib.Seq.{take-append-le, drop-append-le, drop-append-add}
use Rattle.pages.proofs.page_runs.Goals as goal

-- ---- a part of blocks that lies in one of them

part_left : (a b : List ℕ) (i n : ℕ) → i + n ≤ length a → part (a ++ b) i n ≡ part a i n
unfolding part
part_left a b i n h = rw (drop-append-le i a b (omega arith), take-append-le n (drop i a) b (omega (arith, length-drop i a)))

part_right : (a b : List ℕ) (i n : ℕ) → part (a ++ b) (length a + i) n ≡ part b i n
unfolding part
part_right a b i n = rw (drop-append-add a b i)

read-part : (f : ℕ → List ℕ) (ks : List ℕ) → ((k : ℕ) → length (f k) ≡ 1024) → (j r n : ℕ) → j < length ks → r + n ≤ 1024
    → part (read_blocks f ks) (1024 * j + r) n ≡ part (f (get_or ks j 0)) r n
unfolding read_blocks
read-part f [] size j r n h k = absurd (omega arith)
read-part f (b ∷ ks) size zero r n h k =
    let e : 1024 * 0 + r ≡ r = omega arith in rw e (part_left (f b) (read_blocks f ks) r n (omega (arith, size b)))
read-part f (b ∷ ks) size (suc j) r n h k =
    let e : 1024 * suc j + r ≡ length (f b) + (1024 * j + r) = omega (arith, size b) in
    rw e (part_right (f b) (read_blocks f ks) (1024 * j + r) n ∙ read-part f ks size j r n (omega arith) k)

-- a page's next run, which begins in the j-th block and ends there
page-run : (img ks : List ℕ) (offset count done run block : ℕ) → let j = (offset + done) / 1024 in block ≡ get_or ks j 0 → 1024 * block + 1024 ≤ length img → offset + count ≤ 1024 * length ks
    → done + run ≤ count → j < length ks → (offset + done) % 1024 + run ≤ 1024
    → part img (1024 * block + (offset + done) % 1024) run ≡ part (part (read_blocks (block_at (bytes img)) ks) offset count) done run
page-run img ks offset count done run block e inside long h k q =
    let j = (offset + done) / 1024 in
    let r = (offset + done) % 1024 in
    let size : (b : ℕ) → length (block_at (bytes img) b) ≡ 1024 = λ b. length-tab (bytes img) (1024 * b) 1024 in
    let at : offset + done ≡ 1024 * j + r = omega arith in
    sym (
    part-part (read_blocks (block_at (bytes img)) ks) offset count done run (omega (arith, length-read (block_at (bytes img)) ks (λ b i. size b))) h
    ∙ ap (λ (x : ℕ). part (read_blocks (block_at (bytes img)) ks) x run) at
    ∙ read-part (block_at (bytes img)) ks size j r run k q
    ∙ ap (λ (b : ℕ). part (block_at (bytes img) b) r run) (sym e)
    ∙ ap (λ (l : List ℕ). part l r run) (tab-part img (1024 * block) 1024 inside)
    ∙ part-part img (1024 * block) 1024 r run inside q)

-- the map lies in the image
fits : (l : Layout) → LayoutRight l → (img : List ℕ) → length img ≡ image_length l → Fits l img
fits l right img size = omega (arith, right.map-low, right.data_some)

-- ---- the loop

-- a chain has fewer blocks than the disk
few : (l : Layout) (m : ℕ → ℕ) (links start : ℕ) → LayoutRight l → Chained l m links start → links + 1 < 1600
few l m links start right h = omega (arith, right.blocks_most, right.data_first, chain_short l right m links start h)

page_long : (image : List ℕ) (links start offset count : ℕ) → offset + count ≤ 1024 * (links + 1) → length (page image links start offset count) ≡ count
page_long image links start offset count h =
    let b = bytes image in
    let ks = chain (map_at b) links start in
    length_part (read_blocks (block_at b) ks) offset count
    (omega (arith, length-read (block_at b) ks (λ k i. length-tab b (1024 * k) 1024), length-chain (map_at b) links start, h))

-- the walk hasn't gone past the next byte
behind : (links offset done j : ℕ) → j ≡ (cost_of (links + 1) offset done).links → j ≤ (offset + done) / 1024
behind links offset done j e = omega (arith, cost_low (links + 1) offset done)

-- the walk stands in the next byte's block
there : (m : ℕ → ℕ) (links start offset done j block result : ℕ) → j ≤ links → block ≡ get_or (chain m links start) j 0 → j ≡ (cost_of (links + 1) offset done).links
    → result ≡ get_or (chain m (links - j) block) ((offset + done) / 1024 - j) 0 → result ≡ get_or (chain m links start) ((offset + done) / 1024) 0
there m links start offset done j block result h e low r =
    nth_from m links start j (links - j) ((offset + done) / 1024 - j) e (omega arith) r (omega (arith, behind links offset done j low))

-- so in a data block
inside : (l : Layout) (m : ℕ → ℕ) (links start offset count done block : ℕ) → Chained l m links start → done < count → offset + count ≤ 1024 * (links + 1)
    → block ≡ get_or (chain m links start) ((offset + done) / 1024) 0 → Data l block
inside l m links start offset count done block h p q e = nth_data l m links start ((offset + done) / 1024) h (omega arith) e

pub loop-done-init : goal.loop-done-init
unfolding cost_of
loop-done-init c = (omega arith, nth_first _ _ _, omega arith, refl, splice_none _ 0, refl, refl, refl, λ h k. absurd (omega arith))

pub overflow_add-at : goal.overflow_add-at
overflow_add-at c =
    let a = c.args in
    omega (arith, few a.layout (map_at (bytes a.image.now)) a.links a.start c.requires.layout_right.0 c.requires.layout_right.2)

pub overflow_sub-next : goal.overflow_sub-next
overflow_sub-next c =
    let l = c.loop-done in
    omega (arith, behind c.args.links c.args.offset l.done l.j l.invariant.6)

pub nth_block-block-requires : goal.nth_block-block-requires
nth_block-block-requires c =
    let a = c.args in
    let l = c.loop-done in
    let r = c.requires.layout_right in
    let m = map_at (bytes a.image.now) in
    let low = behind a.links a.offset l.done l.j l.invariant.6 in (
      fits a.layout r.0 a.image.now r.1,
      chained_from a.layout m a.links a.start l.j (a.links - l.j) l.invariant.1 (omega arith) r.2,
      omega arith,
      omega (arith, few a.layout m a.links a.start r.0 r.2, low),
    )

pub overflow_mul-block : goal.overflow_mul-block
overflow_mul-block c =
    let a = c.args in
    let l = c.loop-done in
    let m = map_at (bytes a.image.now) in
    let stands = there m a.links a.start a.offset l.done l.j l.block c.nth_block-block.result l.invariant.0 l.invariant.1 l.invariant.6 c.nth_block-block.ensures.value in
    let lies = inside a.layout m a.links a.start a.offset a.count l.done c.nth_block-block.result c.requires.layout_right.2 (omega arith) c.requires.count_bound.0 stands in
    omega (arith, lies.1, c.requires.layout_right.1)

pub overflow_add-block : goal.overflow_add-block
overflow_add-block c =
    let a = c.args in
    let l = c.loop-done in
    let m = map_at (bytes a.image.now) in
    let stands = there m a.links a.start a.offset l.done l.j l.block c.nth_block-block.result l.invariant.0 l.invariant.1 l.invariant.6 c.nth_block-block.ensures.value in
    let lies = inside a.layout m a.links a.start a.offset a.count l.done c.nth_block-block.result c.requires.layout_right.2 (omega arith) c.requires.count_bound.0 stands in
    omega (arith, lies.1, c.requires.layout_right.1)

pub copy_counted-requires : goal.copy_counted-requires
copy_counted-requires c =
    let a = c.args in
    let l = c.loop-done in
    let m = map_at (bytes a.image.now) in
    let stands = there m a.links a.start a.offset l.done l.j l.block c.nth_block-block.result l.invariant.0 l.invariant.1 l.invariant.6 c.nth_block-block.ensures.value in
    let lies = inside a.layout m a.links a.start a.offset a.count l.done c.nth_block-block.result c.requires.layout_right.2 (omega arith) c.requires.count_bound.0 stands in
    let short = few a.layout m a.links a.start c.requires.layout_right.0 c.requires.layout_right.2 in
    (omega (arith, lies.1, c.requires.layout_right.1), omega arith, omega (arith, short, cost_few (a.links + 1) a.offset l.done))

pub loop-done-preserved : goal.loop-done-preserved
loop-done-preserved c =
    let a = c.args in
    let l = c.loop-done in
    let m = map_at (bytes a.image.now) in
    let stands = there m a.links a.start a.offset l.done l.j l.block c.nth_block-block.result l.invariant.0 l.invariant.1 l.invariant.6 c.nth_block-block.ensures.value in
    let lies = inside a.layout m a.links a.start a.offset a.count l.done c.nth_block-block.result c.requires.layout_right.2 (omega arith) c.requires.count_bound.0 stands in
    let img = a.image.now in
    let all = page img a.links a.start a.offset a.count in
    let block = c.nth_block-block.result in
    let run = c.min-run.result in
    let n = length-chain m a.links a.start in
    let q : part img (1024 * block + (a.offset + l.done) % 1024) run ≡ part all l.done run =
    page-run img (chain m a.links a.start) a.offset a.count l.done run block stands (omega (arith, lies.1, c.requires.layout_right.1)) (omega (arith, n)) (omega arith) (omega (arith, n)) (omega arith) in
    let e : c.copy_counted.new.out ≡ splice l.out l.done (part all l.done run) = rw (← q) c.copy_counted.ensures.out_after in
    let copied = e ∙ splice-turns a.out.now 0 all l.done run l.invariant.4 (omega arith) (omega (arith, page_long img a.links a.start a.offset a.count c.requires.count_bound.0)) in
    let low = behind a.links a.offset l.done l.j l.invariant.6 in (
      omega arith,
      stands,
      omega arith,
      ap length copied ∙ length-splice a.out.now 0 _,
      copied,
      omega (arith, low, c.nth_block-block.ensures.followed_after),
      sym (run_links (a.links + 1) a.offset l.done run (omega arith) (omega arith)),
      omega (arith, l.invariant.7, c.copy_counted.ensures.runs_after, run_runs (a.links + 1) a.offset l.done run (omega arith) (omega arith) (omega arith) (λ h. l.invariant.8 h (omega arith))),
      λ h k. omega arith,
    )

pub returns-clause-out_after : goal.returns-clause-out_after
returns-clause-out_after c =
    let a = c.args in
    let l = c.loop-done in
    let all = page a.image.now a.links a.start a.offset a.count in
    l.invariant.4 ∙ ap (splice a.out.now 0) (take_all l.done all (omega (arith, page_long a.image.now a.links a.start a.offset a.count c.requires.count_bound.0)))

-- What a page costs (document 02, request three): the links followed to copy it, and the runs copied. A file's blocks are counted from 0, so that its
-- byte i lies in block i / 1024. They hold a page's bytes from the first's block to the last's, each one of them. Assumes nothing.
use Rattle.std.specs.Prelude.{◌≡◌, refl, Bool, true, ◌↔◌, ℕ, zero, suc, ◌+◌, ◌-◌, ◌*◌, ◌/◌, ◌≤◌, ◌<◌, leb, eqb}
use Rattle.std.proofs.Common.{◌∙◌, arith, leb-true, eq-eqb, eqb-true}
use Rattle.std.proofs.Math.Decide.{dec_lt}
use Rattle.laws.specs.Truth.{within}
use Rattle.laws.specs.Scan.{any, count}
use Rattle.laws.specs.Lemmas.Truth.{clash, true_if, same_truth, both_true, within_in}
use Rattle.laws.specs.Lemmas.Scan.{count_cong, count-within, none→}
use Rattle.laws.proofs.Lemmas.Scan.{some→}
use Rattle.pages.specs.declared.Cost.{Cost}

-- Whether a block of a file holds one of the `size` bytes from an offset on.
unfoldable pub holds : ℕ → ℕ → ℕ → Bool
unfolding any
holds offset size block = any (λ i. eqb (i / 1024) block) offset size

-- The blocks that hold its bytes: how many of the file's do.
unfoldable pub blocks_holding : ℕ → ℕ → ℕ → ℕ
unfolding count holds
blocks_holding blocks offset size = count (holds offset size) 0 blocks

-- Nothing followed, nothing copied.
abbrev pub no_cost : Cost
no_cost = record { links = 0; runs = 0 }

-- The cost of a page of a file of so many blocks. Links: its last byte's offset in the file, divided by 1,024 and rounded down. Runs: the blocks that
-- hold its bytes. Of an empty page: nothing.
unfoldable pub cost_of : ℕ → ℕ → ℕ → Cost
unfolding blocks_holding
cost_of blocks offset zero = no_cost
cost_of blocks offset (suc n) = record { links = (offset + n) / 1024; runs = blocks_holding blocks offset (suc n) }

-- ---- the same by the page's size

pub cost_links : (blocks offset size : ℕ) → 1 ≤ size → (cost_of blocks offset size).links ≡ (offset + size - 1) / 1024
unfolding cost_of
cost_links blocks offset zero h = absurd (omega arith)
cost_links blocks offset (suc n) h = omega arith

pub cost_runs : (blocks offset size : ℕ) → 1 ≤ size → (cost_of blocks offset size).runs ≡ blocks_holding blocks offset size
unfolding cost_of
cost_runs blocks offset zero h = absurd (omega arith)
cost_runs blocks offset (suc n) h = refl

pub cost_none : (blocks offset size : ℕ) → size ≡ 0 → cost_of blocks offset size ≡ no_cost
unfolding cost_of
cost_none blocks offset size e = rw e refl

-- ---- from the first byte's block to the last's

-- A block holds one of the bytes exactly if one of them lies in it.
pub holds_exactly : (offset size block : ℕ) → (holds offset size block ≡ true) ↔ ((i : ℕ) × (offset ≤ i) × (i < offset + size) × (i / 1024 ≡ block))
unfolding holds
holds_exactly offset size block =
    let f : ℕ → Bool = λ i. eqb (i / 1024) block in (
      λ e. let w = some→ f offset size e in (w.0, w.1, w.2, eqb-true (w.0 / 1024) block w.3),
      λ w. true_if (holds offset size block) (λ t. clash (eq-eqb (w.0 / 1024) block w.3) (none→ f offset size t w.0 w.1 w.2)),
    )

-- a block between the two holds the page's first byte, or its own first byte is the page's
byte_in : (offset n block : ℕ) → offset / 1024 ≤ block → block ≤ (offset + n) / 1024 → (i : ℕ) × (offset ≤ i) × (i < offset + suc n) × (i / 1024 ≡ block)
byte_in offset n block h k = go (dec_lt (1024 * block) offset)
  where
    go : Dec (1024 * block < offset) → (i : ℕ) × (offset ≤ i) × (i < offset + suc n) × (i / 1024 ≡ block)
    go (yes d) = (offset, omega arith, omega arith, omega arith)
    go (no d) = (1024 * block, omega arith, omega arith, omega arith)

holds-within : (offset n block : ℕ) → holds offset (suc n) block ≡ within (offset / 1024) ((offset + n) / 1024) block
holds-within offset n block =
    let low = offset / 1024 in
    let high = (offset + n) / 1024 in
    let x = holds_exactly offset (suc n) block in
    same_truth (holds offset (suc n) block) (within low high block)
    (λ e. let w = x.0 e in within_in low high block (omega (arith, w.1, w.3)) (omega (arith, w.2, w.3)))
    (λ e. let w = both_true (leb low block) (leb block high) e in x.1 (byte_in offset n block (leb-true low block w.0) (leb-true block high w.1)))

-- The blocks that hold its bytes are the last one's number less the first one's, and one.
pub blocks_between : (blocks offset size : ℕ) → 1 ≤ size → offset + size ≤ 1024 * blocks → blocks_holding blocks offset size ≡ (offset + size - 1) / 1024 - offset / 1024 + 1
unfolding blocks_holding
blocks_between blocks offset zero h k = absurd (omega arith)
blocks_between blocks offset (suc n) h k =
    count_cong (holds offset (suc n)) (within (offset / 1024) ((offset + n) / 1024)) 0 blocks (λ b p q. holds-within offset n b)
    ∙ count-within (offset / 1024) ((offset + n) / 1024) 0 blocks (omega arith) (omega arith) (omega arith)
    ∙ omega arith

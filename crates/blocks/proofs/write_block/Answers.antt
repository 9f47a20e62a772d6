-- `blocks::write_block` meets its contract: the front comes back as the content and the rest as zeros.
-- The content is spliced at the front and zeros after it, which is the padded content by `splice-padded`. Assumes nothing.
use Rattle.std.proofs.Common.{◌≡◌, ◌∙◌, ◌++◌, ◌-◌, ◌≤◌, List, ℕ, ap, refl, arith, length, take, drop, replicate}
use Rattle.std.proofs.lemmas.List.{length-replicate}
use Rattle.laws.specs.Padded.{padded}
use Rattle.laws.specs.Splice.{splice}
use Rattle.laws.specs.Lemmas.Padded.{splice-padded}
use Rattle.laws.specs.Lemmas.Splice.{splice_back, lent_back, length-lent, length-splice}
use Rattle.blocks.proofs.write_block.Goals as goal

-- a block whose front was written and whose rest was lent and came back as zeros
zeros_after : (block content m : List ℕ) {zeros : List ℕ} → length content ≤ length block → m ≡ content ++ drop (length content) block
    → zeros ≡ replicate (length (take (length m - length content) (drop (length content) m))) 0
    → take (length content) m ++ (zeros ++ drop (length m - length content) (drop (length content) m)) ≡ padded content (length block)
zeros_after block content m h front rest =
    let written : m ≡ splice block 0 content = front ∙ splice_back block 0 (length content) content (omega arith) refl in
    let long : length m ≡ length block = ap length written ∙ length-splice block 0 content in
    let some : List ℕ = replicate (length block - length content) 0 in
    lent_back m (length content) (length m) some (omega arith) (omega arith) (length-replicate {A = ℕ} (length block - length content) 0 ∙ omega arith)
    (rest ∙ ap (λ (n : ℕ). replicate {A = ℕ} n 0) (length-lent m (length content) (length m) (omega arith) ∙ omega arith))
    ∙ ap (λ (l : List ℕ). splice l (length content) some) written
    ∙ splice-padded block content h

pub returns : goal.returns
returns c =
    let front = c.copy_run.ensures in
    let b = c.args.block.now in
    let n = length c.args.content.now in
    zeros_after b c.args.content.now _ c.requires (ap (λ (l : List ℕ). l ++ drop n b) front) (c.fill.ensures.after (λ y e. e))

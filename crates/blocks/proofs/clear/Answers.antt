-- `blocks::clear` meets its contract: the part that was lent comes back as zeros. Assumes nothing.
use Rattle.std.proofs.Common.{◌∙◌, ◌+◌, ap, ℕ, replicate, arith}
use Rattle.std.proofs.lemmas.List.{length-replicate}
use Rattle.laws.specs.Lemmas.Splice.{lent_back, length-lent}
use Rattle.blocks.proofs.clear.Goals as goal

pub returns : goal.returns
returns c =
    let a = c.args in
    lent_back a.target.now a.at (a.at + a.n) (replicate {A = ℕ} a.n 0) (omega arith) (omega arith) (length-replicate {A = ℕ} a.n 0 ∙ omega arith)
    (c.fill.ensures.after (λ y e. e) ∙ ap (λ n. replicate {A = ℕ} n 0) (length-lent a.target.now a.at (a.at + a.n) (omega arith) ∙ omega arith))

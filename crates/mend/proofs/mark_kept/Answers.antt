-- `mend::mark_kept` meets its contract: the marks of the kept chains grow by the slot's if it is kept, and stay if it isn't.
-- A kept slot's chain is faultless and stands in the list; one that isn't kept is empty afterwards. Assumes nothing.
use Rattle.std.proofs.Common.{sym, ◌∙◌, arith}
use Rattle.mend.specs.Lemmas.Verdicts.{gone_marks, kept_listed, kept_marks}
use Rattle.mend.proofs.mark_kept.Goals as goal

pub overflow_add-count : goal.overflow_add-count
overflow_add-count c =
    let p = c.requires in
    omega (arith, (kept_listed _ _ _ (sym p.1 ∙ c.if-verdict-eq-KEPT.true) c.args.image.right c.links_of-count.ensures c.if-verdict-eq-KEPT.true p.2).0)

pub shared_ref_as_front-mark_blocks : goal.shared_ref_as_front-mark_blocks
shared_ref_as_front-mark_blocks c =
    let p = c.requires in (kept_listed _ _ _ (sym p.1 ∙ c.if-verdict-eq-KEPT.true) c.args.image.right c.links_of-count.ensures c.if-verdict-eq-KEPT.true p.2).0

pub mark_blocks-requires : goal.mark_blocks-requires
mark_blocks-requires c =
    let p = c.requires in (kept_listed _ _ _ (sym p.1 ∙ c.if-verdict-eq-KEPT.true) c.args.image.right c.links_of-count.ensures c.if-verdict-eq-KEPT.true p.2).2

pub returns-then-verdict-eq-KEPT : goal.returns-then-verdict-eq-KEPT
returns-then-verdict-eq-KEPT c =
    let p = c.requires in
    kept_marks _ _ _ (sym p.1 ∙ c.if-verdict-eq-KEPT.true) c.args.image.right c.links_of-count.ensures c.if-verdict-eq-KEPT.true p.2 _ p.3 c.mark_blocks.ensures

pub returns-else-verdict-eq-KEPT : goal.returns-else-verdict-eq-KEPT
returns-else-verdict-eq-KEPT c =
    let p = c.requires in
    gone_marks _ _ _ (λ e. c.if-verdict-eq-KEPT.false (p.1 ∙ e)) _ p.3

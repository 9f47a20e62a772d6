-- `session::run` meets its contract: what remains of the script, run on what there is, comes to what the whole comes to.
-- Each turn takes one entry off the front (`run_more`) or ends (`run_stop`); lent parts come back as splices. Assumes nothing.
use Rattle.std.proofs.Common.{◌≡◌, sym, ap, ◌∙◌, List, ℕ, ◌/◌, arith, length, min}
use Rattle.session.specs.Lemmas.Entries.{run-start, run_end, part-fits}
use Rattle.session.proofs.Lemmas.Entries.{run_more, run_stop, own_entry, part_back}
use Rattle.session.specs.Script.{run_from, after_run}
use Rattle.session.proofs.run.Goals as goal

pub loop-k-init : goal.loop-k-init
loop-k-init c = run-start _ _ _ _ _

pub loop-k-preserved : goal.loop-k-preserved
loop-k-preserved c =
    let l = c.loop-k in
    let a = c.args in
    let r = c.run_entry-made in
    let fit = part-fits (length c.as_chunks.result.0.now) (length l.out) l.k (c.min-n.ensures ∙ ap (λ m. min (length c.as_chunks.result.0.now) (m / 1044)) (sym l.auto.out)) c.loop-k-test.true in
    let own = own_entry a.script.now l.k _ _ c.as_chunks.ensures.front c.as_chunks.ensures.front_len c.min-n.ensures c.loop-k-test.true in
    rw (part_back l.out r.new.shown l.k fit r.auto.shown) (sym (run_more a.script.now a.pool.now _ l.k l.image l.out c.loop-k-test.true own c.if-not-made.false r.ensures) ∙ l.invariant)

pub returns : goal.returns
returns c =
    let l = c.loop-k in
    let a = c.args in
    let all : l.k ≡ c.min-n.result = omega arith in
    ap (λ m. after_run m l.out l.image) (sym all) ∙ sym (run_end a.script.now a.pool.now _ l.k l.image l.out c.loop-k-test.false) ∙ l.invariant
    ∙ ap (λ m. run_from a.script.now a.pool.now m 0 a.image.now a.out.now) (c.min-n.ensures ∙ ap (λ m. min m (length a.out.now / 1044)) c.as_chunks.ensures.front_len)

pub returns-then-not-made : goal.returns-then-not-made
returns-then-not-made c =
    let l = c.loop-k in
    let a = c.args in
    let r = c.run_entry-made in
    let fit = part-fits (length c.as_chunks.result.0.now) (length l.out) l.k (c.min-n.ensures ∙ ap (λ m. min (length c.as_chunks.result.0.now) (m / 1044)) (sym l.auto.out)) c.loop-k-test.true in
    let own = own_entry a.script.now l.k _ _ c.as_chunks.ensures.front c.as_chunks.ensures.front_len c.min-n.ensures c.loop-k-test.true in
    ap (λ (o : List ℕ). after_run l.k o r.new.image) (part_back l.out r.new.shown l.k fit r.auto.shown)
    ∙ sym (run_stop a.script.now a.pool.now _ l.k l.image l.out c.loop-k-test.true fit own c.if-not-made.true r.ensures) ∙ l.invariant
    ∙ ap (λ m. run_from a.script.now a.pool.now m 0 a.image.now a.out.now) (c.min-n.ensures ∙ ap (λ m. min m (length a.out.now / 1044)) c.as_chunks.ensures.front_len)

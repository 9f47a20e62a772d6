-- `session::run` meets its contract: what remains of the script, run on what there is, comes to what the whole comes to.
-- Each turn takes one entry off the front (`run_more`) or ends (`run_stop`); lent parts come back as splices. Assumes nothing.
use Rattle.std.proofs.Common.{◌≡◌, ◌-◌}
use Rattle.session.specs.Script.{run_from}
use Rattle.session.proofs.run.Given as goal

abbrev pub invariant-loop-k : goal.invariant-loop-k
invariant-loop-k l = run_from l.script l.pool (l.n - l.k) l.k l.image l.out ≡ run_from l.script l.pool l.n 0 l.initial.image l.initial.out

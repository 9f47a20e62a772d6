-- What a page costs that grew by a run: the links to the run's block, and one run more.
-- From its first byte on a page has whole blocks before each run, so that no block is met twice. Assumes nothing.
use Rattle.std.specs.Prelude.{◌≡◌, ℕ, ◌+◌, ◌-◌, ◌*◌, ◌/◌, ◌%◌, ◌≤◌, ◌<◌}
use Rattle.std.proofs.Common.{ap, ◌∙◌, arith}
use Rattle.std.proofs.Math.Decide.{dec_lt}
use Rattle.pages.specs.declared.Cost.{Cost}
use Rattle.pages.specs.Cost.{cost_of, cost_links, cost_runs, cost_none, blocks_between}

-- a run begins the page or a block of the file, and ends in that block
module _ (blocks offset done run : ℕ) (some : 1 ≤ run) (inside : (offset + done) % 1024 + run ≤ 1024) where
  pub run_links : (cost_of blocks offset (done + run)).links ≡ (offset + done) / 1024
  run_links =
      let e : (offset + (done + run) - 1) / 1024 ≡ (offset + done) / 1024 = omega arith in
      cost_links blocks offset (done + run) (omega arith) ∙ e

  pub run_runs : offset + (done + run) ≤ 1024 * blocks → (1 ≤ done → (offset + done) % 1024 ≡ 0) → (cost_of blocks offset (done + run)).runs ≡ (cost_of blocks offset done).runs + 1
  run_runs h edge = go (dec_lt 0 done)
    where
      go : Dec (0 < done) → (cost_of blocks offset (done + run)).runs ≡ (cost_of blocks offset done).runs + 1
      go (yes d) =
          omega (
            arith,
            edge d,
            cost_runs blocks offset (done + run) (omega arith),
            blocks_between blocks offset (done + run) (omega arith) h,
            cost_runs blocks offset done d,
            blocks_between blocks offset done d (omega arith),
          )
      go (no d) =
          omega (
            arith,
            cost_runs blocks offset (done + run) (omega arith),
            blocks_between blocks offset (done + run) (omega arith) h,
            ap (λ (c : Cost). c.runs) (cost_none blocks offset done (omega arith)),
          )

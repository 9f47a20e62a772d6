-- Demand 3 for a whole script: the calls that a run makes, with what comes of each, behave as the plain record, after each call.
-- A run's turns are made one on the image that the last left, so `demand_3` (rules) speaks of them. Assumes nothing.
use Rattle.std.specs.Prelude.{◌≡◌, refl, List, ◌∷◌, ℕ, zero, suc}
use Rattle.std.proofs.Math.Option.{Option, none, some}
use Rattle.layout.specs.declared.Kind.{Kind}
use Rattle.layout.specs.declared.Density.{Density}
use Rattle.layout.specs.Layouts.{layout_of}
use Rattle.image.specs.Image.{files_in}
use Rattle.record.specs.Record.{Call, Turn}
use Rattle.rules.specs.Check.{check_of, call_of, accepting}
use Rattle.rules.specs.Demand.{Ran, Behaves}
use Rattle.rules.proofs.Demand.{demand_3}
use Rattle.session.specs.Script.{run_of, entries}
use Rattle.session.specs.Turns.{call_at, turn_of, or_end, written_by, turns, leave, run-turns}

ran_on : (img : List ℕ) (x : Option Call) (next : Call → List Turn) → ((c : Call) → Ran (call_of img c).state (next c)) → Ran img (or_end x (λ c. turn_of img c ∷ next c))
ran_on img none next h = tt
ran_on img (some c) next h = (refl, h c)

ran : (script pool : List ℕ) (n k : ℕ) (img out : List ℕ) → Ran img (turns script pool n k img out)
unfolding turns
ran script pool zero k img out = tt
ran script pool (suc n) k img out = ran_on img (call_at script pool k out) _ (λ c. ran script pool n (suc k) (call_of img c).state (written_by out k (call_of img c)))

-- Take any accepted image and any script, pool and output: the run leaves what its turns leave, and after each of them all is the record's.
pub script_serves : (k : Kind) (d : Density) (f n : ℕ) (img script pool out : List ℕ) → check_of img ≡ accepting k d f n
    → let ts = turns script pool (entries script out) 0 img out in
    (run_of img script pool out ≡ leave out 0 img ts) × Behaves k d img (files_in (layout_of k d) img) ts
script_serves k d f n img script pool out e =
    let ts = turns script pool (entries script out) 0 img out in (run-turns script pool (entries script out) 0 img out, demand_3 k d f n img e ts (ran script pool (entries script out) 0 img out))

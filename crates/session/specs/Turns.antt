-- Demand 3 for a whole script: the calls that a run makes, with what comes of each, behave as the plain record, after each call.
-- A run's turns are made one on the image that the last left, so `demand_3` (rules) speaks of them. Assumes nothing.
use Rattle.std.specs.Prelude.{◌≡◌, refl, List, [], ◌∷◌, ℕ, zero, suc, ◌*◌}
use Rattle.std.proofs.Math.Option.{Option, none, some}
use Rattle.laws.specs.Truth.{pick}
use Rattle.laws.specs.Splice.{splice, part}
use Rattle.record.specs.Record.{Call, Turn, Outcome}
use Rattle.rules.specs.Check.{came, call_of}
use Rattle.session.specs.Script.{entry_call, shown_by, entered_by, after_run, Ended, run_from}

-- the call that the k-th entry is, with what it is lent of the output
abbrev pub call_at : List ℕ → List ℕ → ℕ → List ℕ → Option Call
call_at script pool k out = entry_call (part script (20 * k) 20) pool (part (part out (1044 * k) 1044) 20 1024)

-- A call with what `call_of` says of it.
abbrev pub turn_of : List ℕ → Call → Turn
turn_of img c = record { call = c; answer = (call_of img c).answer; output = (call_of img c).output; after = (call_of img c).state }

-- The calls that a run makes from the k-th entry on, with what comes of each.
abbrev pub or_end : Option Call → (Call → List Turn) → List Turn
or_end none next = []
or_end (some c) next = next c

abbrev pub written_by : List ℕ → ℕ → Outcome (List ℕ) → List ℕ
written_by out k o = splice out (1044 * k) (shown_by (part out (1044 * k) 1044) o)

unfoldable pub turns : List ℕ → List ℕ → ℕ → ℕ → List ℕ → List ℕ → List Turn
unfolding part splice entry_call call_of
turns script pool zero k img out = []
turns script pool (suc n) k img out =
    or_end (call_at script pool k out) (λ c. turn_of img c ∷ turns script pool n (suc k) (call_of img c).state (written_by out k (call_of img c)))

-- What turns leave: each call's reply and page in its part of the output, in order, and the last image.
unfoldable pub leave : List ℕ → ℕ → List ℕ → List Turn → Ended
unfolding part splice
leave out k img [] = after_run k out img
leave out k img (t ∷ ts) = leave (written_by out k (came t.answer t.output t.after)) (suc k) t.after ts

-- A run comes to what its turns leave.
left_on : (img out : List ℕ) (k : ℕ) (x : Option Call) (run : List ℕ → List ℕ → Ended) (next : Call → List Turn)
    → ((c : Call) → run (call_of img c).state (written_by out k (call_of img c)) ≡ leave (written_by out k (call_of img c)) (suc k) (call_of img c).state (next c))
    → pick (entered_by x img (part out (1044 * k) 1044)).made
    (run (entered_by x img (part out (1044 * k) 1044)).state (splice out (1044 * k) (entered_by x img (part out (1044 * k) 1044)).shown))
    (after_run k out img)
    ≡ leave out k img (or_end x (λ c. turn_of img c ∷ next c))
unfolding leave
left_on img out k none run next h = refl
left_on img out k (some c) run next h = h c

pub run-turns : (script pool : List ℕ) (n k : ℕ) (img out : List ℕ) → run_from script pool n k img out ≡ leave out k img (turns script pool n k img out)
unfolding run_from turns leave
run-turns script pool zero k img out = refl
run-turns script pool (suc n) k img out =
    left_on img out k (call_at script pool k out) (λ i o. run_from script pool n (suc k) i o) _ (λ c. run-turns script pool n (suc k) (call_of img c).state (written_by out k (call_of img c)))

-- What a call comes to by the check's answer.
-- A refused image answers the check's refusal, but that salvage mends it; an accepted one what the record says. Assumes nothing.
use Rattle.std.specs.Prelude.{◌≡◌, refl, List, ℕ, length, Err}
use Rattle.std.proofs.Common.{sym}
use Rattle.laws.specs.Lemmas.Padded.{padded_nil}
use Rattle.layout.specs.declared.Kind.{Kind}
use Rattle.layout.specs.declared.Density.{Density}
use Rattle.record.specs.Record.{shape_of, Call, list, page}
use Rattle.record.specs.Step.{step_image}
use Rattle.laws.specs.declared.Refusal.{Refusal}
use Rattle.rules.specs.Check.{check_of, came, unaccepted, call_of, Checked, accepting}
use Rattle.calls.specs.declared.Metered.{Metered}
use Rattle.calls.specs.Answers.{paged_of, Lists, unpaged_by}
use Rattle.calls.specs.Metered.{cost_in}

-- ---- by the check's answer

pub call_refused : (img : List ℕ) (call : Call) {c : Checked} {r : Refusal} → c ≡ check_of img → c ≡ Err r → unaccepted r img call ≡ call_of img call
unfolding call_of
call_refused img call e t = rw (← e, t) refl

pub call_accepted : (img : List ℕ) (call : Call) {c : Checked} {k : Kind} {d : Density} {f n : ℕ} → c ≡ check_of img → c ≡ accepting k d f n → call_of img call ≡ step_image (shape_of k d) img call
unfolding call_of
call_accepted img call e a = rw (← e, a) refl

-- a listing of a refused image
pub lists_refused : (img : List ℕ) (s : ℕ) {c : Checked} {r : Refusal} → c ≡ check_of img → c ≡ Err r → Lists img (call_of img (list s)) (Err r)
lists_refused img s e t = rw (← call_refused img (list s) e t) (record { answer = refl; letters = refl; name = sym (padded_nil 12) })

-- a metered page of one
pub meters_refused : (img : List ℕ) (s offset : ℕ) (out : List ℕ) {c : Checked} {r : Refusal} {w : Metered} → c ≡ check_of img → c ≡ Err r → w ≡ unpaged_by r
    → (came (paged_of w.paged) out img ≡ call_of img (page s offset out)) × (w.cost ≡ cost_in img s offset (length out))
unfolding cost_in
meters_refused img s offset out e t v = rw v (call_refused img (page s offset out) e t, rw (← e, t) refl)

-- What the public calls promise, one by one: each is `Made`, an equation with `call_of`, and so is what the check promises (`check_made`).
-- The contracts of src/lib.rt say the same; the crate above takes each of them as the one here, so one that said less is refused there. Assumes nothing.
use Rattle.std.specs.Prelude.{◌≡◌, refl, List, [], ℕ, Ok, Err}
use Rattle.std.proofs.Common.{sym, ap, ◌∙◌}
use Rattle.record.specs.Record.{check, list, find, page, put, remove, salvage, Outcome}
use Rattle.record.specs.Step.{step_image}
use Rattle.rules.specs.Check.{came, check_of, answer_of, call_of, Made, Checked}
use Rattle.rules.proofs.Demand.{check_call}
use Rattle.calls.specs.Answers.{found_of, paged_of, listed_of, removed_of, Lists, Found, Paged, Listed, Removed}
use Rattle.calls.specs.Lemmas.Answers.{call_refused, call_accepted}
use Rattle.laws.specs.Refusals.{Counted}

abbrev pub FindMade : List ℕ → List ℕ → ℕ → Found → Type 0
FindMade img name letter r = Made img (find name letter) (found_of r) [] img

abbrev pub PageMade : List ℕ → ℕ → ℕ → List ℕ → Paged → List ℕ → Type 0
PageMade img slot offset out r after = Made img (page slot offset out) (paged_of r) after img

abbrev pub PutMade : List ℕ → List ℕ → ℕ → List ℕ → Found → List ℕ → Type 0
PutMade img name letter content r after = Made img (put name letter content) (found_of r) [] after

abbrev pub RemoveMade : List ℕ → List ℕ → ℕ → Removed → List ℕ → Type 0
RemoveMade img name letter r after = Made img (remove name letter) (removed_of r) [] after

abbrev pub SalvageMade : List ℕ → List ℕ → Counted → List ℕ → List ℕ → Type 0
SalvageMade img report r said after = Made img (salvage report) (found_of r) said after

-- List promises its 12 bytes of a name besides.
abbrev pub ListMade : List ℕ → ℕ → Listed → Type 0
ListMade img slot r = Lists img (call_of img (list slot)) r

pub list_made : (img : List ℕ) (slot : ℕ) (r : Listed) → ListMade img slot r → Made img (list slot) (listed_of r) [] img
list_made img slot r p = p.answer

-- What `disk::check` promises is the check as a call.
pub check_made : (img : List ℕ) (c : Checked) → c ≡ check_of img → Made img check (answer_of c) [] img
unfolding step_image
check_made img c e = go (check_of img) refl
  where
    go : (w : Checked) → check_of img ≡ w → Made img check (answer_of c) [] img
    go (Err q) r = rw (e ∙ r) (call_refused img check e (e ∙ r))
    go (Ok disk) r =
        let s = call_accepted img check refl r in
        rw (e, ← check_call img) (ap (λ (o : Outcome (List ℕ)). came o.answer [] img) s ∙ sym s)

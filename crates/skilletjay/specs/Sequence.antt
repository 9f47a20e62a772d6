-- Demand 3 as C sees it: calls of its functions, made one after another on an accepted image, behave as the plain record, after each call.
-- A result has every field of the answer, so it tells the answer whole (`told_made`). Assumes nothing.
use Rattle.std.specs.Prelude.{◌≡◌, List, ℕ}
use Rattle.std.proofs.Math.Path.{refl}
use Rattle.std.proofs.Math.Option.{some}
use Rattle.laws.specs.Lemmas.Padded.{padded_nil}
use Rattle.laws.specs.declared.Refusal.{Refusal}
use Rattle.record.specs.Record.{Call, check, list, find, page, put, remove, salvage}
use Rattle.rules.specs.Check.{call_of}
use Rattle.rules.proofs.Refused.{unchanged}
use Rattle.skilletjay.specs.Told.{told_of, refused_turn}

-- ---- each answer is what the result tells of it

-- Whatever the image, a refused call tells C its refusal and 0 in all else, and leaves what was lent.
pub told_refusal : (img : List ℕ) (c : Call) (r : Refusal) → (call_of img c).answer.refusal ≡ some r → told_of img c ≡ refused_turn img c r
told_refusal img check r e = rw (unchanged img check r e) refl
told_refusal img (list s) r e = rw (unchanged img (list s) r e, padded_nil 12) refl
told_refusal img (find name type) r e = rw (unchanged img (find name type) r e) refl
told_refusal img (page s offset out) r e = rw (unchanged img (page s offset out) r e) refl
told_refusal img (put name type content) r e = rw (unchanged img (put name type content) r e) refl
told_refusal img (remove name type) r e = rw (unchanged img (remove name type) r e) refl
told_refusal img (salvage report) r e = rw (unchanged img (salvage report) r e) refl

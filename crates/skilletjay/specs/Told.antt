-- The calls of C's functions on an image, what each promises, and the record's answer as C's result tells it.
-- Assumes nothing.
use Rattle.std.specs.Prelude.{◌≡◌, false, List, [], ◌∷◌, ℕ, eqb, take, replicate}
use Rattle.std.proofs.Math.Option.{Option, none, some}
use Rattle.laws.specs.Truth.{pick}
use Rattle.laws.specs.declared.Refusal.{Refusal}
use Rattle.laws.specs.Refusals.{refusal_at, number_of, place_of}
use Rattle.layout.specs.declared.Layout.{Layout}
use Rattle.record.specs.Record.{Call, check, list, find, page, put, remove, salvage, Answer, Turn}
use Rattle.rules.specs.Check.{call_of}
use Rattle.skilletjay.specs.declared.CChecked.{CChecked}
use Rattle.skilletjay.specs.declared.CListed.{CListed}
use Rattle.skilletjay.specs.declared.CFound.{CFound}
use Rattle.skilletjay.specs.declared.CPaged.{CPaged}
use Rattle.skilletjay.specs.declared.CDone.{CDone}
use Rattle.skilletjay.specs.declared.CCounted.{CCounted}
use Rattle.skilletjay.specs.Results.{checked_result, listed_result, found_result, paged_result, done_result, changed_result}

-- A call of one of C's functions that was made: its arguments, its result, and what it left in what was lent to it to write.
pub data CTurn : Type 0 where
  checked : CChecked → CTurn
  listed : ℕ → CListed → CTurn
  -- name, type
  found : List ℕ → ℕ → CFound → CTurn
  -- slot, offset, the output as it was lent; the output afterwards
  paged : ℕ → ℕ → List ℕ → CPaged → List ℕ → CTurn
  -- name, type, content; the image afterwards
  placed : List ℕ → ℕ → List ℕ → CFound → List ℕ → CTurn
  -- name, type; the image afterwards
  removed : List ℕ → ℕ → CDone → List ℕ → CTurn
  -- the report as it was lent; the report and the image afterwards
  salvaged : List ℕ → CCounted → List ℕ → List ℕ → CTurn

-- What a call of C's functions comes to on an image: its result, and what it leaves. Each function's contract is that the call made is this one.
abbrev pub told_of : List ℕ → Call → CTurn
told_of img check = checked (checked_result (call_of img check).answer)
told_of img (list slot) = listed slot (listed_result (call_of img (list slot)).answer)
told_of img (find name type) = found name type (found_result (call_of img (find name type)).answer)
told_of img (page slot offset lent) = paged slot offset lent (paged_result (call_of img (page slot offset lent)).answer) (call_of img (page slot offset lent)).output
told_of img (put name type content) = placed name type content (found_result (call_of img (put name type content)).answer) (call_of img (put name type content)).state
told_of img (remove name type) = removed name type (done_result (call_of img (remove name type)).answer) (call_of img (remove name type)).state
told_of img (salvage lent) = salvaged lent (changed_result (call_of img (salvage lent)).answer) (call_of img (salvage lent)).output (call_of img (salvage lent)).state

-- A refused call: the refusal's number and place, 0 in every other field, and all that was lent as it was.
abbrev pub refused_turn : List ℕ → Call → Refusal → CTurn
refused_turn img check r = checked (record { refusal = number_of r; place = place_of r; kind = 0; density = 0; files = 0; free = 0 })
refused_turn img (list slot) r = listed slot (record { refusal = number_of r; place = place_of r; name = replicate 12 0; letter = 0; length = 0 })
refused_turn img (find name type) r = found name type (record { refusal = number_of r; place = place_of r; slot = 0 })
refused_turn img (page slot offset lent) r = paged slot offset lent (record { refusal = number_of r; place = place_of r; count = 0; end = false }) lent
refused_turn img (put name type content) r = placed name type content (record { refusal = number_of r; place = place_of r; slot = 0 }) img
refused_turn img (remove name type) r = removed name type (record { refusal = number_of r; place = place_of r }) img
refused_turn img (salvage lent) r = salvaged lent (record { refusal = number_of r; place = place_of r; count = 0 }) lent img

-- ---- the answer that a result tells

-- A refusal's number is never 0.
abbrev pub refusal_in : ℕ → ℕ → Option Refusal
refusal_in number place = pick (eqb number 0) none (some (refusal_at number place))

abbrev pub checked_in : CChecked → Answer
checked_in r = record { refusal = refusal_in r.refusal r.place; value = r.files; free = r.free; kind = r.kind; density = r.density; name = []; type = 0; end = false }

-- A name has the layout's number of letters, and none where the call was refused.
abbrev pub listed_in : Layout → CListed → Answer
listed_in l r = record {
  refusal = refusal_in r.refusal r.place;
  value = r.length;
  free = 0;
  kind = 0;
  density = 0;
  name = pick (eqb r.refusal 0) (take l.letters r.name) [];
  type = r.letter;
  end = false;
}

abbrev pub found_in : CFound → Answer
found_in r = record { refusal = refusal_in r.refusal r.place; value = r.slot; free = 0; kind = 0; density = 0; name = []; type = 0; end = false }

abbrev pub paged_in : CPaged → Answer
paged_in r = record { refusal = refusal_in r.refusal r.place; value = r.count; free = 0; kind = 0; density = 0; name = []; type = 0; end = r.end }

abbrev pub done_in : CDone → Answer
done_in r = record { refusal = refusal_in r.refusal r.place; value = 0; free = 0; kind = 0; density = 0; name = []; type = 0; end = false }

abbrev pub changed_in : CCounted → Answer
changed_in r = record { refusal = refusal_in r.refusal r.place; value = r.count; free = 0; kind = 0; density = 0; name = []; type = 0; end = false }

-- A call of C's functions on an image of a layout as the call that it stands for, with its answer and what it left.
abbrev pub turn_in : Layout → List ℕ → CTurn → Turn
turn_in l img (checked r) = record { call = check; answer = checked_in r; output = []; after = img }
turn_in l img (listed slot r) = record { call = list slot; answer = listed_in l r; output = []; after = img }
turn_in l img (found name type r) = record { call = find name type; answer = found_in r; output = []; after = img }
turn_in l img (paged slot offset lent r out) = record { call = page slot offset lent; answer = paged_in r; output = out; after = img }
turn_in l img (placed name type content r after) = record { call = put name type content; answer = found_in r; output = []; after = after }
turn_in l img (removed name type r after) = record { call = remove name type; answer = done_in r; output = []; after = after }
turn_in l img (salvaged lent r report after) = record { call = salvage lent; answer = changed_in r; output = report; after = after }

-- A sequence of such calls, each on the image that the one before it left.
abbrev pub CRan : Layout → List ℕ → List CTurn → Type 0
CRan l img [] = Unit {0}
CRan l img (t ∷ ts) = (t ≡ told_of img (turn_in l img t).call) × CRan l (turn_in l img t).after ts

abbrev pub turns_in : Layout → List ℕ → List CTurn → List Turn
turns_in l img [] = []
turns_in l img (t ∷ ts) = turn_in l img t ∷ turns_in l (turn_in l img t).after ts

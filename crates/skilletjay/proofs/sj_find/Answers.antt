-- `skilletjay::sj_find` meets its contract: the result is that of find's answer.
-- What find ensures. Assumes nothing.
use Rattle.std.proofs.Common.{◌≡◌, ◌∙◌, ap, refl, List, [], ℕ}
use Rattle.calls.specs.Answers.{find_call, found_of, Found}
use Rattle.record.specs.Record.{Outcome, find}
use Rattle.rules.specs.Check.{came, call_of}
use Rattle.skilletjay.specs.Results.{found_result}
use Rattle.skilletjay.specs.declared.CFound.{CFound}
use Rattle.skilletjay.specs.Told.{found, told_of}
use Rattle.skilletjay.proofs.sj_find.Goals as goal

-- a result of what a find answered is what C is told of it
told : (img name : List ℕ) (letter other : ℕ) (answer : Found) (r : CFound) → r ≡ found_result (found_of answer)
    → came (found_of answer) [] img ≡ call_of img (find_call name other) → other ≡ letter → found name letter r ≡ told_of img (find name letter)
told img name letter other answer r e f same = ap (found name letter) (e ∙ ap (λ (o : Outcome (List ℕ)). found_result o.answer) f ∙ ap (λ (n : ℕ). found_result (call_of img (find name n)).answer) same)

pub returns : goal.returns
returns c =
    let a = c.args in
    told a.image.now a.name.now a.letter _ c.find.result c.from.result c.from.ensures c.find.ensures refl

-- A file is known by its name and its type (document 02, request six): on an accepted disk find, put and remove go by both, so one name may stand in several
-- types, and each file of it is found, in the way of a put, and removed by its own type alone.
-- By cases on the record's judgement; a name and a type stand in one slot. Assumes nothing.
use Rattle.std.specs.Prelude.{◌≡◌, refl, Bool, true, false, List, [], ◌↔◌, ℕ, ◌≤◌, ◌<◌, eqb, ltb, length, Some, Err, Ok, None}
use Rattle.std.proofs.Common.{sym, ◌∙◌, arith, eqb-true, le-ltb}
use Rattle.std.proofs.Math.Path.{ap}
use Rattle.std.proofs.Math.Option.{none, some}
use Rattle.laws.specs.Lemmas.Truth.{both_true, clash}
use Rattle.laws.specs.Lists.{same}
use Rattle.laws.specs.Lemmas.Scan.{at→}
use Rattle.laws.specs.declared.Refusal.{Refusal}
use Rattle.layout.specs.declared.Kind.{Kind}
use Rattle.layout.specs.declared.Density.{Density}
use Rattle.layout.specs.declared.Layout.{Layout}
use Rattle.layout.specs.Layouts.{layout_of}
use Rattle.layout.proofs.Right.{layout_right}
use Rattle.blocks.specs.Blocks.{blocks_for}
use Rattle.names.specs.Names.{legal_name, legal_type, capitals}
use Rattle.view.specs.Disk.{File}
use Rattle.image.specs.Image.{files_in, DiskRules, remove_image}
use Rattle.record.specs.Record.{shape_of, Files, Call, find, put, remove, Answer, Outcome, number_in, place_or, refused, refused_by, valued, done, refuse, refuse_if, is_legal, Removes, kept_file, is_empty, slot_of, empty_slot, free, judge_name, judge_put, finding, putting, removing, Judged}
use Rattle.record.specs.Order.{room_for, order_illegal, order_missing, order_found, order_unfit, order_taken, order_full, order_room}
use Rattle.record.proofs.Others.{others}
use Rattle.record.specs.Types.{Holds}
use Rattle.record.proofs.Types.{slot_at, slot_none, none_held}
use Rattle.rules.specs.Check.{check_of, came, call_of, accepting}
use Rattle.rules.specs.Accepted.{accepted_as}
use Rattle.rules.proofs.Accepts.{accepted-rules, rules-accepted}
use Rattle.rules.specs.Demand.{slot_inside, some_slot}
use Rattle.rules.proofs.Demand.{call_is, rules-after, files-after, free_blocks_is, judged_room, put_answer}
use Rattle.rules.specs.Lemmas.States.{step_find, step_remove}
use Rattle.rules.proofs.Spelling as spelling
use Rattle.rules.specs.Types.{FoundApart}
use Rattle.laws.specs.Scan.{Lowest}

-- how a name and a type are judged, and why
data Judges (l : Layout) (files : Files) (name : List ℕ) (type : ℕ) : Judged → Type 0 where
  illegal : is_legal l name type ≡ false → Judges l files name type (refuse 11 0)
  missing : is_legal l name type ≡ true → ((s : ℕ) → Holds l files name type s → ⊥) → Judges l files name type (refuse 10 0)
  held : is_legal l name type ≡ true → (s : ℕ) → Holds l files name type s → Judges l files name type (Ok s)

-- what such a put leaves: an accepted image with both files
record SecondPut (k : Kind) (d : Density) (img : List ℕ) (slot : ℕ) (file : File) (type : ℕ) (content : List ℕ) : Type 0 where
  place : ℕ
  granted : (call_of img (put file.name type content)).answer ≡ valued place
  apart : place ≡ slot → ⊥
  accepts : let after = (call_of img (put file.name type content)).state in check_of after ≡ accepted_as k d after
  own : capitals (layout_of k d) file.name ≡ file.name
  stays : files_in (layout_of k d) (call_of img (put file.name type content)).state slot ≡ some file
  kept : files_in (layout_of k d) (call_of img (put file.name type content)).state place ≡ some (kept_file (layout_of k d) file.name type content)

-- the slot that is granted, or the refusal, as an outcome tells it
same_slot : {img : List ℕ} (s t : ℕ) → came (valued s) [] img ≡ came (valued t) [] img → s ≡ t
same_slot s t e = ap (λ (o : Outcome (List ℕ)). o.answer.value) e

same_number : {img out : List ℕ} (a b : Answer) → came a out img ≡ came b out img → number_in a.refusal ≡ number_in b.refusal
same_number a b e = ap (λ (o : Outcome (List ℕ)). number_in o.answer.refusal) e

-- answers with two numbers are two
other-number : {a b : Answer} → a ≡ b → (number_in a.refusal ≡ number_in b.refusal → ⊥) → ⊥
other-number e n = n (ap (λ (x : Answer). number_in x.refusal) e)

module _ (k : Kind) (d : Density) (f n : ℕ) (img : List ℕ) (accept : check_of img ≡ accepting k d f n) where
  abbrev l : Layout
  l = layout_of k d

  abbrev files : Files
  files = files_in l img

  abbrev rules : DiskRules l img
  rules = accepted-rules k d f n img accept

  module _ (name : List ℕ) (type : ℕ) where
    by_slot : is_legal l name type ≡ true → (w : Lowest) → slot_of l files name type ≡ w → Judges l files name type (judge_name l files name type)
    by_slot p (Some s) e = rw (order_found l files name type p e) (held p s (slot_at l files name type s e))
    by_slot p None e = rw (order_missing l files name type p e) (missing p (λ s h. none_held l files name type e s (slot_inside l img s h.0 h.1) h))

    by_legal : (t : Bool) → is_legal l name type ≡ t → Judges l files name type (judge_name l files name type)
    by_legal false p = rw (order_illegal l files name type p) (illegal p)
    by_legal true p = by_slot p (slot_of l files name type) refl

    judged : Judges l files name type (judge_name l files name type)
    judged = by_legal (is_legal l name type) refl

    found_is : call_of img (find name type) ≡ finding img (judge_name l files name type)
    found_is = call_is k d img (find name type) rules ∙ step_find (shape_of k d) img name type

    removed_is : call_of img (remove name type) ≡ removing img (remove_image l img) (judge_name l files name type)
    removed_is = call_is k d img (remove name type) rules ∙ step_remove (shape_of k d) img name type

    -- ---- find

    -- A slot is found ↔ it holds a file with the name and the type.
    pub found_exactly : (slot : ℕ) → (call_of img (find name type) ≡ came (valued slot) [] img) ↔ Holds l files name type slot
    found_exactly slot = (λ e. to (judge_name l files name type) judged (sym found_is ∙ e), from)
      where
        to : (j : Judged) → Judges l files name type j → finding img j ≡ came (valued slot) [] img → Holds l files name type slot
        to j (illegal h) e = absurd (let z : ◌≡◌ {A = ℕ} 11 0 = same_number (refused 11 0) (valued slot) e in omega arith)
        to j (missing h nothing) e = absurd (let z : ◌≡◌ {A = ℕ} 10 0 = same_number (refused 10 0) (valued slot) e in omega arith)
        to j (held i s h) e = let z : s ≡ slot = same_slot s slot e in rw z at h

        from : Holds l files name type slot → call_of img (find name type) ≡ came (valued slot) [] img
        from (file, there, spells, typed) = rw typed (spelling.found k d f n img accept slot file there name spells)

    -- 10 ↔ name and type are legal, and no slot holds a file with both, though one of another type may have the name.
    pub missing_exactly : (call_of img (find name type) ≡ came (refused 10 0) [] img) ↔ ((is_legal l name type ≡ true) × ((s : ℕ) → Holds l files name type s → ⊥))
    missing_exactly = (λ e. to (judge_name l files name type) judged (sym found_is ∙ e), λ p. found_is ∙ from (judge_name l files name type) judged p.0 p.1)
      where
        to : (j : Judged) → Judges l files name type j → finding img j ≡ came (refused 10 0) [] img → (is_legal l name type ≡ true) × ((s : ℕ) → Holds l files name type s → ⊥)
        to j (illegal h) e = absurd (let z : ◌≡◌ {A = ℕ} 11 10 = same_number (refused 11 0) (refused 10 0) e in omega arith)
        to j (missing h nothing) e = (h, nothing)
        to j (held i s h) e = absurd (let z : ◌≡◌ {A = ℕ} 0 10 = same_number (valued s) (refused 10 0) e in omega arith)

        from : (j : Judged) → Judges l files name type j → is_legal l name type ≡ true → ((s : ℕ) → Holds l files name type s → ⊥) → finding img j ≡ came (refused 10 0) [] img
        from j (illegal h) p q = absurd (clash p h)
        from j (missing h nothing) p q = refl
        from j (held i s h) p q = absurd (q s h)

    -- 11 ↔ the name or the type is illegal, whatever files there are.
    pub illegal_exactly : (call_of img (find name type) ≡ came (refused 11 0) [] img) ↔ (is_legal l name type ≡ false)
    illegal_exactly = (λ e. to (judge_name l files name type) judged (sym found_is ∙ e), λ p. found_is ∙ from (judge_name l files name type) judged p)
      where
        to : (j : Judged) → Judges l files name type j → finding img j ≡ came (refused 11 0) [] img → is_legal l name type ≡ false
        to j (illegal h) e = h
        to j (missing h nothing) e = absurd (let z : ◌≡◌ {A = ℕ} 10 11 = same_number (refused 10 0) (refused 11 0) e in omega arith)
        to j (held i s h) e = absurd (let z : ◌≡◌ {A = ℕ} 0 11 = same_number (valued s) (refused 11 0) e in omega arith)

        from : (j : Judged) → Judges l files name type j → is_legal l name type ≡ false → finding img j ≡ came (refused 11 0) [] img
        from j (illegal h) p = refl
        from j (missing h nothing) p = absurd (clash h p)
        from j (held i s h) p = absurd (clash i p)

    -- ---- remove

    -- Remove is refused as find is, and else empties the slot that find gives.
    pub refused_as_found : (r : Refusal) → call_of img (find name type) ≡ came (refused_by r) [] img → call_of img (remove name type) ≡ came (refused_by r) [] img
    refused_as_found r e = removed_is ∙ go (judge_name l files name type) (sym found_is ∙ e)
      where
        go : (j : Judged) → finding img j ≡ came (refused_by r) [] img → removing img (remove_image l img) j ≡ came (refused_by r) [] img
        go (Err q) h = h
        go (Ok s) h = absurd (let z : none ≡ some r = ap (λ (o : Outcome (List ℕ)). o.answer.refusal) h in let o : ◌≡◌ {A = ℕ} 0 1 = cc in omega arith)

    pub removed_as_found : (slot : ℕ) → call_of img (find name type) ≡ came (valued slot) [] img → call_of img (remove name type) ≡ came done [] (remove_image l img slot)
    removed_as_found slot e = go ((found_exactly slot).0 e)
      where
        go : Holds l files name type slot → call_of img (remove name type) ≡ came done [] (remove_image l img slot)
        go (file, there, spells, typed) = rw typed (spelling.removed k d f n img accept slot file there name spells)

    -- ---- put

    module _ (content : List ℕ) (given : length content ≡ 0 → ⊥) where
      -- where no slot has name and type, put isn't refused by 12
      room_else : (t u : Bool) (s slot : ℕ) → (putting img (λ s. img) (refuse_if t 15 (refuse_if u 16 (Ok s)))).answer ≡ refused 12 slot → ⊥
      room_else true u s slot e = other-number e (λ z. omega arith)
      room_else false true s slot e = other-number e (λ z. omega arith)
      room_else false false s slot e = other-number e (λ z. omega arith)

      put_by : (slot : ℕ) (j : Judged) → judge_put l files name type content ≡ j → (putting img (λ s. img) (judge_put l files name type content)).answer ≡ refused 12 slot
          → (putting img (λ s. img) j).answer ≡ refused 12 slot
      put_by slot j e h = rw e at h

      else_slot : (slot : ℕ) → is_legal l name type ≡ true → slot_of l files name type ≡ None → (w : Lowest) → empty_slot l files ≡ w
          → (putting img (λ s. img) (judge_put l files name type content)).answer ≡ refused 12 slot → ⊥
      else_slot slot p e None w h =
          other-number (put_by slot (refuse 14 0) (order_full l files name type content p given e w) h) (λ z. omega arith)
      else_slot slot p e (Some s) w h =
          room_else (ltb (free l files) (blocks_for (length content))) (ltb 16777215 (length content)) s slot
          (put_by slot (room_for (free l files) (length content) s) (order_room l files name type content p given e w) h)

      by_taken : (slot : ℕ) → is_legal l name type ≡ true → (w : Lowest) → slot_of l files name type ≡ w
          → (putting img (λ s. img) (judge_put l files name type content)).answer ≡ refused 12 slot → Holds l files name type slot
      by_taken slot p (Some s) e h =
          let z : s ≡ slot = ap (λ (a : Answer). place_or a.refusal 0) (put_by slot (refuse 12 s) (order_taken l files name type content p given e) h) in
          rw z at (slot_at l files name type s e)
      by_taken slot p None e h = absurd (else_slot slot p e (empty_slot l files) refl h)

      by_form : (slot : ℕ) (t : Bool) → is_legal l name type ≡ t → (putting img (λ s. img) (judge_put l files name type content)).answer ≡ refused 12 slot → Holds l files name type slot
      by_form slot false p h =
          absurd (other-number (put_by slot (refuse 11 0) (order_unfit l files name type content p) h) (λ z. omega arith))
      by_form slot true p h = by_taken slot p (slot_of l files name type) refl h

      -- Put answers 12 at a slot ↔ it holds a file with the name and the type; content being given.
      pub taken_exactly : (slot : ℕ) → ((call_of img (put name type content)).answer ≡ refused 12 slot) ↔ Holds l files name type slot
      taken_exactly slot = (λ e. by_form slot (is_legal l name type) refl (sym (put_answer k d f n img accept name type content (judge_put l files name type content) refl) ∙ e), from)
        where
          from : Holds l files name type slot → (call_of img (put name type content)).answer ≡ refused 12 slot
          from (file, there, spells, typed) = rw typed (ap (λ (o : Outcome (List ℕ)). o.answer) (spelling.taken k d f n img accept slot file there name spells content given))

  -- ---- files of one name

  -- A file that has another type than the one that is removed stays, whatever its name.
  pub other_type_stays : (s : ℕ) (file : File) → files s ≡ some file → (name : List ℕ) (type : ℕ) → (type ≡ file.type → ⊥) → files_in l (call_of img (remove name type)).state s ≡ some file
  other_type_stays s file there name type other =
      files-after k d img (remove name type) rules s ∙ others (shape_of k d) files s file there (remove name type) spared
    where
      spared : Removes l (remove name type) file → ⊥
      spared (given, kind, same-call, is) =
          let z : type ≡ kind = cc in
          other (z ∙ eqb-true kind file.type (both_true (same (capitals l given) file.name) (eqb kind file.type) is).1)

  -- ---- a second type

  -- a content that fits the free blocks is granted
  fits : (size s : ℕ) → blocks_for size ≤ n → room_for n size s ≡ Ok s
  fits size s room =
      let area = (free_blocks_is k d f n img accept).1 in
      let most = (layout_right k d).blocks_most in
      let short : size ≤ 16777215 = omega arith in
      rw (le-ltb n (blocks_for size) room, le-ltb 16777215 size short) refl

  -- a file's name in a type that no file of the name has
  module _ (slot : ℕ) (file : File) (there : files slot ≡ some file) (type : ℕ) (typed : legal_type l type ≡ true) (new : (s : ℕ) → Holds l files file.name type s → ⊥) (content : List ℕ)
      (given : length content ≡ 0 → ⊥) (room : blocks_for (length content) ≤ n) (s : ℕ) (inside : s < l.slots) (empty : files s ≡ none) where
    abbrev putting_it : Call
    putting_it = put file.name type content

    own_name : capitals l file.name ≡ file.name
    own_name = spelling.kept_name_is k d f n img accept slot file there

    own_legal : (legal_name l file.name ≡ true) × (legal_type l file.type ≡ true)
    own_legal = both_true (legal_name l file.name) (legal_type l file.type) (spelling.legal k d f n img accept slot file there file.name own_name)

    empty_slot_is : (r : ℕ) × (empty_slot l files ≡ Some r)
    empty_slot_is = some_slot k d f n img accept file.name type content s inside empty

    granted : (call_of img putting_it).answer ≡ valued empty_slot_is.0
    granted =
        put_answer k d f n img accept file.name type content (Ok empty_slot_is.0)
        (judged_room k d f n img accept file.name type content typed own_legal.0 (slot_none l files file.name type new) given empty_slot_is.0
        empty_slot_is.1 ∙ fits (length content) empty_slot_is.0 room)

    -- the slot was empty
    other_slot : empty_slot_is.0 ≡ slot → ⊥
    unfolding empty_slot
    other_slot e = clash (at→ (λ t. is_empty (files t)) 0 l.slots empty_slot_is.0 empty_slot_is.1).2 (ap (λ (t : ℕ). is_empty (files t)) e ∙ ap is_empty there)

    stays : files_in l (call_of img putting_it).state slot ≡ some file
    stays = files-after k d img putting_it rules slot ∙ others (shape_of k d) files slot file there putting_it (λ r. let z : ◌≡◌ {A = ℕ} 0 1 = cc in absurd (omega arith))

    second_put : SecondPut k d img slot file type content
    second_put = record {
      place = empty_slot_is.0;
      granted = granted;
      apart = other_slot;
      accepts = rules-accepted k d (call_of img putting_it).state (rules-after k d img putting_it rules);
      own = own_name;
      stays = stays;
      kept = spelling.put_keeps k d f n img accept file.name type content empty_slot_is.0 granted;
    }

-- A file's name may be put in another legal type that no file of the name has, where content is given, a slot is empty and there is room: then both are found.
pub second_type : (k : Kind) (d : Density) (f n : ℕ) (img : List ℕ) → check_of img ≡ accepting k d f n → (slot : ℕ) (file : File) → files_in (layout_of k d) img slot ≡ some file
    → (type : ℕ) → legal_type (layout_of k d) type ≡ true → ((s : ℕ) → Holds (layout_of k d) (files_in (layout_of k d) img) file.name type s → ⊥) → (content : List ℕ) → (length content ≡ 0 → ⊥)
    → blocks_for (length content) ≤ n → (s : ℕ) → s < (layout_of k d).slots → files_in (layout_of k d) img s ≡ none → FoundApart img slot file type content
second_type k d f n img accept slot file there type typed new content given room s inside empty =
    let p = second_put k d f n img accept slot file there type typed new content given room s inside empty in
    let after = (call_of img (put file.name type content)).state in
    record {
      place = p.place;
      granted = p.granted;
      apart = p.apart;
      old = (found_exactly k d _ _ after p.accepts file.name file.type slot).1 (file, p.stays, p.own, refl);
      new = (found_exactly k d _ _ after p.accepts file.name type p.place).1 (kept_file (layout_of k d) file.name type content, p.kept, refl, refl);
    }

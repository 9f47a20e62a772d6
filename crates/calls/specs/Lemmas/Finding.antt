-- The slot that the record finds for a legal name and type is the lowest slot with the name's area and the type.
-- On a valid disk a used slot's area is its name's, and a legal name's capitals are its area's; an empty slot has no legal type. Assumes nothing.
use Rattle.std.specs.Prelude.{◌≡◌, refl, Bool, List, ℕ, ◌<◌, eqb, length, Ok, Some, None, ok_or}
use Rattle.std.proofs.Common.{sym, ◌∙◌, arith, zero-add, lt-ltb}
use Rattle.std.proofs.Math.Path.{ap}
use Rattle.std.proofs.Math.Bool.{true, false}
use Rattle.laws.specs.Truth.{both}
use Rattle.laws.specs.Lemmas.Truth.{both_true, same_truth}
use Rattle.laws.specs.Scan.{lowest, Lowest}
use Rattle.laws.specs.Lemmas.Scan.{lowest_cong}
use Rattle.laws.specs.Lists.{same}
use Rattle.laws.specs.Lemmas.Lists.{same_refl, same_true}
use Rattle.laws.specs.Reader.{bytes, tab}
use Rattle.laws.specs.Lemmas.Reader.{tab_is}
use Rattle.layout.specs.declared.Layout.{Layout}
use Rattle.layout.specs.Right.{LayoutRight}
use Rattle.names.specs.Names.{legal_name, legal_type, area_of, name_of, capitals}
use Rattle.names.specs.NameLaws.{length-area, area_back}
use Rattle.names.proofs.NameLaws.{name_back, capitals-area}
use Rattle.view.specs.Disk.{used, has_name, files_of, Used}
use Rattle.view.specs.Lemmas.Formed.{formed-parts, type_some}
use Rattle.view.specs.Lemmas.Namesakes.{empty_unnamed}
use Rattle.image.specs.Image.{view_of, files_in, DiskRules}
use Rattle.slots.specs.Keys.{Keyed, has_keys}
use Rattle.slots.specs.declared.Keys.{Keys}
use Rattle.slots.specs.Lemmas.Keys.{keys_area}
use Rattle.record.specs.Record.{Files, refuse, is_legal, named, slot_of, judge_name}
use Rattle.record.specs.Order.{order_illegal, order_missing, order_found}
use Rattle.laws.specs.Refusals.{refusal_at}

module _ (l : Layout) (right : LayoutRight l) (img : List ℕ) (rules : DiskRules l img) (name : List ℕ) (type : ℕ) (legal : is_legal l name type ≡ true) where
  parts : (legal_name l name ≡ true) × (legal_type l type ≡ true)
  parts = both_true (legal_name l name) (legal_type l type) legal

  area_same : (s : ℕ) → Used l (view_of l (bytes img)) s
      → same (capitals l name) (name_of l ((view_of l (bytes img)).entry s).area) ≡ same (area_of l name) ((view_of l (bytes img)).entry s).area
  area_same s u =
      let e = (view_of l (bytes img)).entry s in
      same_truth (same (capitals l name) (name_of l e.area)) (same (area_of l name) e.area)
      (λ h.
      ap (λ (a : List ℕ). same a e.area) (sym (capitals-area l name))
      ∙ ap (λ (n : List ℕ). same (area_of l n) e.area) (same_true (capitals l name) (name_of l e.area) h)
      ∙ ap (λ (a : List ℕ). same a e.area) (area_back l right e.area (formed-parts l e (rules.valid.legal s u)).area)
      ∙ same_refl e.area)
      (λ h.
      ap (λ (a : List ℕ). same (capitals l name) (name_of l a)) (sym (same_true (area_of l name) e.area h))
      ∙ ap (same (capitals l name)) (name_back l right name parts.0)
      ∙ same_refl (capitals l name))

  named_by : (s : ℕ) → s < l.slots → (u : Bool) → used ((view_of l (bytes img)).entry s) ≡ u
      → named l name type (files_in l img s) ≡ has_name (area_of l name) type ((view_of l (bytes img)).entry s)
  unfolding files_of
  named_by s i true u =
      rw (lt-ltb s l.slots i, u) (unfold has_name in ap (λ (t : Bool). both t (eqb type ((view_of l (bytes img)).entry s).type)) (area_same s (i, u)))
  named_by s i false u =
      rw (lt-ltb s l.slots i, u) (sym (empty_unnamed (area_of l name) type ((view_of l (bytes img)).entry s) (type_some l right type parts.1) u))

  pub slot_is : slot_of l (files_in l img) name type ≡ lowest (λ s. has_name (area_of l name) type ((view_of l (bytes img)).entry s)) 0 l.slots
  unfolding slot_of
  slot_is =
      lowest_cong (λ s. named l name type (files_in l img s)) (λ s. has_name (area_of l name) type ((view_of l (bytes img)).entry s)) 0 l.slots
      (λ s p q. named_by s (omega arith) (used ((view_of l (bytes img)).entry s)) refl)

-- the lowest slot with the keys of an area and a type is the lowest that has both
pub found_area : (l : Layout) (img area : List ℕ) (type : ℕ) {k : Keys} {r : Lowest} → ((i : ℕ) → bytes img i < 256) → length area ≡ 16 → Keyed (bytes area) 0 type k
    → r ≡ lowest (λ s. has_keys l (bytes img) s k.low k.high k.letter) 0 l.slots → r ≡ lowest (λ s. has_name area type ((view_of l (bytes img)).entry s)) 0 l.slots
found_area l img area type {k} small long keyed found =
    let whole : tab (bytes area) 0 16 ≡ area = ap (tab (bytes area) 0) (sym long) ∙ tab_is (bytes area) 0 area (λ k p. ap (bytes area) (zero-add k)) in
    found ∙ lowest_cong (λ s. has_keys l (bytes img) s k.low k.high k.letter) (λ s. has_name area type ((view_of l (bytes img)).entry s)) 0 l.slots
    (λ s p q.
    ap (has_keys l (bytes img) s k.low k.high) keyed.letter
    ∙ keys_area l (bytes area) (bytes img) 0 s type keyed.small small keyed.low keyed.high
    ∙ ap (λ (a : List ℕ). has_name a type ((view_of l (bytes img)).entry s)) whole)

-- the lowest slot with the name's area and the type is the record's, and so is the lowest with the keys of the two
module _ (l : Layout) (right : LayoutRight l) (img : List ℕ) (rules : DiskRules l img) (name : List ℕ) (type : ℕ) (legal : is_legal l name type ≡ true) where
  pub found_named : {area : List ℕ} {r : Lowest} → area ≡ area_of l name → r ≡ lowest (λ s. has_name area type ((view_of l (bytes img)).entry s)) 0 l.slots
      → r ≡ slot_of l (files_in l img) name type
  found_named is found =
      found ∙ ap (λ (a : List ℕ). lowest (λ s. has_name a type ((view_of l (bytes img)).entry s)) 0 l.slots) is
      ∙ sym (slot_is l right img rules name type legal)

  pub found_slot : {area : List ℕ} {k : Keys} {r : Lowest} → ((i : ℕ) → bytes img i < 256) → area ≡ area_of l name → Keyed (bytes area) 0 type k
      → r ≡ lowest (λ s. has_keys l (bytes img) s k.low k.high k.letter) 0 l.slots → r ≡ slot_of l (files_in l img) name type
  found_slot {area} small is keyed found =
      let long : length area ≡ 16 = ap length is ∙ length-area l right name (both_true (legal_name l name) (legal_type l type) legal).0 in
      found_named is (found_area l img area type small long keyed found)

-- ---- the judgement of a name and a type, r being the slot found

module _ (l : Layout) (files : Files) (name : List ℕ) (type : ℕ) where
  pub judge_illegal : is_legal l name type ≡ false → refuse 11 0 ≡ judge_name l files name type
  judge_illegal e = sym (order_illegal l files name type e)

  module _ (legal : is_legal l name type ≡ true) {r : Lowest} (slot : r ≡ slot_of l files name type) where
    pub judge_found : {s : ℕ} → r ≡ Some s → Ok s ≡ judge_name l files name type
    judge_found e = sym (order_found l files name type legal (sym slot ∙ e))

    pub judge_none : r ≡ None → refuse 10 0 ≡ judge_name l files name type
    judge_none e = sym (order_missing l files name type legal (sym slot ∙ e))

    -- both at once
    pub judge_by : ok_or r (refusal_at 10 0) ≡ judge_name l files name type
    judge_by = go r refl
      where
        go : (w : Lowest) → r ≡ w → ok_or r (refusal_at 10 0) ≡ judge_name l files name type
        go (Some s) e = rw e (judge_found e)
        go None e = rw e (judge_none e)

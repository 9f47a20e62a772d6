-- `slots::is_formed` meets its contract: type, length, identity and the name's area are asked in turn, and the form is all four.
-- By what each call answers of its part of the entry. Assumes nothing.
use Rattle.std.proofs.Common.{◌≡◌, refl, sym, ap, ◌∙◌, Bool, true, false, not, List, ℕ, zero, suc, ◌+◌, ◌-◌, ◌≤◌, arith, length, take, drop, eqb, leb, le-leb, ne_eqb}
use Rattle.image.specs.Image.{entry_at}
use Rattle.laws.proofs.Lemmas.Reader.{tab-part}
use Rattle.laws.specs.Lemmas.Splice.{length-lent}
use Rattle.laws.specs.Lemmas.Truth.{clash}
use Rattle.laws.specs.Reader.{bytes, tab}
use Rattle.laws.specs.Splice.{part}
use Rattle.laws.specs.Truth.{both}
use Rattle.layout.specs.Layouts.{slot_offset}
use Rattle.layout.specs.declared.Layout.{Layout}
use Rattle.names.specs.Names.{legal_area, legal_type}
use Rattle.view.specs.Disk.{Entry, formed}
use Rattle.slots.proofs.is_formed.Goals.{then-is_type, else-is_type, then-size_of-ne0, else-size_of-ne0}
use Rattle.slots.proofs.is_formed.Goals as goal

some_size : (n : ℕ) → leb 1 n ≡ not (eqb n 0)
some_size zero = refl
some_size (suc n) = rw (le-leb 1 (suc n) (omega arith), ne_eqb (suc n) 0 (λ z. omega arith)) refl

last_first : (a b c d : Bool) → both a (both b (both c d)) ≡ both b (both c (both d a))
last_first true true true true = refl
last_first true true true false = refl
last_first true true false d = refl
last_first true false c d = refl
last_first false true true true = refl
last_first false true true false = refl
last_first false true false d = refl
last_first false false c d = refl

-- the area may be asked last
formed_asked : (l : Layout) (e : Entry) → formed l e ≡ both (legal_type l e.type) (both (not (eqb e.size 0)) (both (eqb e.identity l.identity) (legal_area l e.area)))
unfolding formed
formed_asked l e = rw (some_size e.size) (last_first (legal_area l e.area) (legal_type l e.type) (not (eqb e.size 0)) (eqb e.identity l.identity))

-- the part of a slot that is lent is its name's area
lent-area : (l : List ℕ) (at from : ℕ) → from ≡ at → at + 16 ≤ length l → take (from + 16 - from) (drop from l) ≡ tab (bytes l) at 16
unfolding part
lent-area l at from p h = let e : at + 16 - at ≡ 16 = omega arith in rw (p, e) (sym (tab-part l at 16 h))

pub is_area-requires : goal.is_area-requires
is_area-requires c =
    let at = c.offset_of-at.result in
    (c.requires.0, omega (arith, length-lent c.args.head.now at (at + 16) (omega arith)))

pub returns-then-identity_of-layout : goal.returns-then-identity_of-layout
unfolding entry_at
returns-then-identity_of-layout c =
    let l = c.args.layout in
    let e = entry_at (bytes c.args.head.now) (slot_offset l c.args.slot) in
    elim c.if-size_of-ne0.branch [
      | then-size_of-ne0 w ↦
          elim c.if-is_type.branch [
            | then-is_type v ↦
                let type : legal_type l e.type ≡ true = ap (legal_type l) (sym c.type_of.ensures) ∙ sym c.is_type.ensures ∙ v.if-is_type.true in
                let size : not (eqb e.size 0) ≡ true = ap (λ n. not (eqb n 0)) (sym v.size_of.ensures) ∙ sym v.value-is ∙ w.if-size_of-ne0.true in
                let own : eqb e.identity l.identity ≡ true = ap (λ n. eqb n l.identity) (sym w.identity_of.ensures) ∙ sym w.value-is ∙ c.if-identity_of-layout.true in
                let at = slot_offset l c.args.slot in
                c.is_area.ensures ∙ ap (legal_area l) (lent-area c.args.head.now at c.offset_of-at.result c.offset_of-at.ensures (omega (arith, c.requires.1))) ∙ sym (formed_asked l e ∙ rw (type, size, own) refl)
            | else-is_type v ↦ absurd (clash (sym v.value-is ∙ w.if-size_of-ne0.true) v.if-is_type.false)
          ]
      | else-size_of-ne0 w ↦ absurd (clash (sym w.value-is ∙ c.if-identity_of-layout.true) w.if-size_of-ne0.false)
    ]

pub returns-else-identity_of-layout : goal.returns-else-identity_of-layout
unfolding entry_at
returns-else-identity_of-layout c =
    let l = c.args.layout in
    let e = entry_at (bytes c.args.head.now) (slot_offset l c.args.slot) in
    c.if-identity_of-layout.false
    ∙ sym (formed_asked l e
    ∙ elim c.if-is_type.branch [
      | then-is_type v ↦
          let type : legal_type l e.type ≡ true = ap (legal_type l) (sym c.type_of.ensures) ∙ sym c.is_type.ensures ∙ v.if-is_type.true in
          let some : not (eqb e.size 0) ≡ c.if-is_type.value = ap (λ n. not (eqb n 0)) (sym v.size_of.ensures) ∙ sym v.value-is in
          elim c.if-size_of-ne0.branch [
            | then-size_of-ne0 w ↦
                let own : eqb e.identity l.identity ≡ false = ap (λ n. eqb n l.identity) (sym w.identity_of.ensures) ∙ sym w.value-is ∙ c.if-identity_of-layout.false in
                rw (type, some, w.if-size_of-ne0.true, own) refl
            | else-size_of-ne0 w ↦ rw (type, some, w.if-size_of-ne0.false) refl
          ]
      | else-is_type v ↦
          let type : legal_type l e.type ≡ false = ap (legal_type l) (sym c.type_of.ensures) ∙ sym c.is_type.ensures ∙ v.if-is_type.false in
          rw type refl
    ])

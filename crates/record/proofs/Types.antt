-- The record knows a file by its name and its type (document 02, request six): where no name stands twice within one type, each file is found by its own.
-- The slot found is the lowest with the name and the type, and no other has both. Assumes nothing.
use Rattle.std.specs.Prelude.{◌≡◌, refl, true, List, ◌↔◌, ℕ, ◌<◌, eqb, Some, None}
use Rattle.std.proofs.Common.{sym, ap, ◌∙◌, true≢false, arith, eqb-true, eq-eqb}
use Rattle.std.proofs.Math.Option.{Option, none, some}
use Rattle.laws.specs.Lemmas.Truth.{both_true, true_both, clash}
use Rattle.laws.specs.Lists.{same}
use Rattle.laws.specs.Lemmas.Lists.{same_refl, same_true}
use Rattle.laws.specs.Lemmas.Scan.{at→, nowhere→}
use Rattle.layout.specs.declared.Layout.{Layout}
use Rattle.names.specs.Names.{capitals}
use Rattle.view.specs.Disk.{File}
use Rattle.record.specs.Record.{Files, named, slot_of}
use Rattle.record.specs.Types.{Holds, Apart}
use Rattle.laws.specs.Scan.{Lowest}

module _ (l : Layout) (files : Files) (name : List ℕ) (type s : ℕ) where
  holds_by : (w : Option File) → files s ≡ w → named l name type w ≡ true → Holds l files name type s
  holds_by none e h = absurd (true≢false (sym h))
  holds_by (some file) e h =
      let p = both_true (same (capitals l name) file.name) (eqb type file.type) h in
      (file, e, same_true (capitals l name) file.name p.0, eqb-true type file.type p.1)

  named_by : Holds l files name type s → named l name type (files s) ≡ true
  named_by (file, there, spells, typed) =
      ap (named l name type) there
      ∙ true_both (same (capitals l name) file.name) (eqb type file.type) (rw spells (same_refl file.name)) (eq-eqb type file.type typed)

  -- The record's test of a slot says just that.
  pub named_exactly : (named l name type (files s) ≡ true) ↔ Holds l files name type s
  named_exactly = (holds_by (files s) refl, named_by)

module _ (l : Layout) (files : Files) (name : List ℕ) (type : ℕ) where
  -- The slot found holds a file with both; none is found exactly where no slot does.
  pub slot_at : (s : ℕ) → slot_of l files name type ≡ Some s → Holds l files name type s
  unfolding slot_of
  slot_at s e = (named_exactly l files name type s).0 (at→ (λ t. named l name type (files t)) 0 l.slots s e).2

  pub slot_none : ((s : ℕ) → Holds l files name type s → ⊥) → slot_of l files name type ≡ None
  slot_none new = go (slot_of l files name type) refl
    where
      go : (w : Lowest) → slot_of l files name type ≡ w → slot_of l files name type ≡ None
      go (Some s) e = absurd (new s (slot_at s e))
      go None e = e

  pub none_held : slot_of l files name type ≡ None → (s : ℕ) → s < l.slots → Holds l files name type s → ⊥
  unfolding slot_of
  none_held e s inside h =
      clash ((named_exactly l files name type s).1 h) (nowhere→ (λ t. named l name type (files t)) 0 l.slots e s (omega arith) (omega arith))

module _ (l : Layout) (files : Files) (apart : Apart files) where
  -- The slot of a name and a type is the one that holds a file with both.
  pub slot_held : (name : List ℕ) (type s : ℕ) → s < l.slots → Holds l files name type s → slot_of l files name type ≡ Some s
  slot_held name type s inside h = go (slot_of l files name type) refl
    where
      same-file : (t : ℕ) → Holds l files name type t → Holds l files name type s → t ≡ s
      same-file t (f, a, p, x) (g, b, q, y) = apart t s f g a b (sym p ∙ q) (sym x ∙ y)

      go : (w : Lowest) → slot_of l files name type ≡ w → slot_of l files name type ≡ Some s
      go (Some t) e = e ∙ ap Some (same-file t (slot_at l files name type t e) h)
      go None e = absurd (none_held l files name type e s inside h)

  -- Two files of one name and two types are both found, each by its own type, in a slot of its own.
  pub both_found : (name : List ℕ) (s t : ℕ) (f g : File) → s < l.slots → t < l.slots → files s ≡ some f → files t ≡ some g → capitals l name ≡ f.name → capitals l name ≡ g.name
      → (f.type ≡ g.type → ⊥) → (slot_of l files name f.type ≡ Some s) × (slot_of l files name g.type ≡ Some t) × (s ≡ t → ⊥)
  both_found name s t f g h k a b p q other = (slot_held name f.type s h (f, a, p, refl), slot_held name g.type t k (g, b, q, refl), one_slot)
    where
      one_slot : s ≡ t → ⊥
      one_slot e = let z : some f ≡ some g = sym a ∙ ap files e ∙ b in let w : f ≡ g = cc in other (ap (λ (x : File). x.type) w)

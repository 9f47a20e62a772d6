-- A well formed entry has its four parts, and an entry with these is well formed; it is in use, and its type is in the layout's range.
-- The test is a conjunction. Assumes nothing.
use Rattle.std.specs.Prelude.{◌≡◌, Bool, true, ℕ, ◌≤◌, eqb}
use Rattle.std.proofs.Math.Path.{ap}
use Rattle.std.proofs.Math.Bool.{not}
use Rattle.std.proofs.Common.{arith}
use Rattle.std.proofs.Math.Dec.{leb}
use borrow.Author.Tests.{eqb-true, eq-eqb, ne_eqb, leb-true, le-leb}
use Rattle.laws.specs.Truth.{both}
use Rattle.laws.specs.Lemmas.Truth.{both_true, true_both}
use Rattle.layout.specs.declared.Layout.{Layout}
use Rattle.layout.specs.Right.{LayoutRight}
use Rattle.names.specs.Names.{legal_area, legal_type}
use Rattle.view.specs.Disk.{Entry, used, formed}

pub type_range : (l : Layout) (type : ℕ) → legal_type l type ≡ true → (l.least ≤ type) × (type ≤ l.most)
unfolding legal_type
type_range l type h =
    let p = both_true (leb l.least type) (leb type l.most) h in
    (leb-true l.least type p.0, leb-true type l.most p.1)

-- 0 is no type
pub type_some : (l : Layout) → LayoutRight l → (type : ℕ) → legal_type l type ≡ true → type ≡ 0 → ⊥
type_some l right type h z = omega (arith, right.type_some, (type_range l type h).0)

pub record Form (l : Layout) (e : Entry) : Type 0 where
  pub area : legal_area l e.area ≡ true
  pub type : legal_type l e.type ≡ true
  pub size : 1 ≤ e.size
  pub own : e.identity ≡ l.identity

module _ (l : Layout) (e : Entry) where
  abbrev own? : Bool
  own? = eqb e.identity l.identity

  pub formed-parts : formed l e ≡ true → Form l e
  unfolding formed
  formed-parts h =
      let some = leb 1 e.size in
      let p = both_true (legal_area l e.area) (both (legal_type l e.type) (both some own?)) h in
      let q = both_true (legal_type l e.type) (both some own?) p.1 in
      let r = both_true some own? q.1 in
      record { area = p.0; type = q.0; size = leb-true 1 e.size r.0; own = eqb-true e.identity l.identity r.1 }

  pub parts-formed : Form l e → formed l e ≡ true
  unfolding formed
  parts-formed f =
      true_both (legal_area l e.area) _ f.area
      (true_both (legal_type l e.type) _ f.type (true_both (leb 1 e.size) own? (le-leb 1 e.size f.size) (eq-eqb e.identity l.identity f.own)))

  pub formed-used : LayoutRight l → formed l e ≡ true → used e ≡ true
  unfolding used
  formed-used right h = ap not (ne_eqb e.type 0 (type_some l right e.type (formed-parts h).type))

-- Entries of one name and one type: the test says exactly that, such entries are used or empty together, and no empty one has a file's type.
-- An entry is used by its type alone. Assumes nothing.
use Rattle.std.specs.Prelude.{◌≡◌, refl, true, false, not, List, ℕ, eqb}
use Rattle.std.proofs.Common.{sym, ap, ◌∙◌, eqb-true, eq-eqb, ne_eqb}
use Rattle.std.proofs.lemmas.Bool.{eqb-false, not-true, not-false}
use Rattle.laws.specs.Lemmas.Truth.{both_true, true_both, false_both}
use Rattle.laws.specs.Lists.{same}
use Rattle.laws.specs.Lemmas.Lists.{same_refl, same_true}
use Rattle.view.specs.Disk.{Entry, used, has_name, Namesakes}

pub namesakes_named : (e f : Entry) → Namesakes e f → has_name e.area e.type f ≡ true
unfolding has_name
namesakes_named e f n = rw (n.0, n.1) (true_both (same f.area f.area) (eqb f.type f.type) (same_refl f.area) (eq-eqb f.type f.type refl))

pub named_namesakes : (e f : Entry) → has_name e.area e.type f ≡ true → Namesakes e f
unfolding has_name
named_namesakes e f h =
    let p = both_true (same e.area f.area) (eqb e.type f.type) h in
    (same_true e.area f.area p.0, eqb-true e.type f.type p.1)

-- an entry with a used one's type is used
pub namesakes_used : (e f : Entry) → Namesakes e f → used e ≡ true → used f ≡ true
unfolding used
namesakes_used e f n u = ap (λ (t : ℕ). not (eqb t 0)) (sym n.1) ∙ u

pub namesakes_back : (e f : Entry) → Namesakes e f → Namesakes f e
namesakes_back e f n = (sym n.0, sym n.1)

-- entries that are kept stay so
pub namesakes_kept : {e f g h : Entry} → e ≡ f → g ≡ h → Namesakes e g → Namesakes f h
namesakes_kept p q n =
    (sym (ap (λ (x : Entry). x.area) p) ∙ n.0 ∙ ap (λ (x : Entry). x.area) q, sym (ap (λ (x : Entry). x.type) p) ∙ n.1 ∙ ap (λ (x : Entry). x.type) q)

-- 0 is no used slot's type
pub used-typed : (e : Entry) → used e ≡ true → e.type ≡ 0 → ⊥
unfolding used
used-typed e u = eqb-false e.type 0 (not-true (eqb e.type 0) u)

-- an empty slot has no name of such a type
pub empty_unnamed : (area : List ℕ) (type : ℕ) (e : Entry) → (type ≡ 0 → ⊥) → used e ≡ false → has_name area type e ≡ false
unfolding has_name used
empty_unnamed area type e some u =
    let z : e.type ≡ 0 = eqb-true e.type 0 (not-false (eqb e.type 0) u) in
    false_both (same area e.area) (eqb type e.type) (λ h. ne_eqb type e.type (λ q. some (q ∙ z)))

-- A program is accepted with n keygroups exactly when the rules hold for n, and else refused at the lowest offset where a part breaks its table.
-- A part's faults lie in its 150 bytes, so that those of an earlier part lie below those of a later one. Assumes nothing.
use Rattle.std.specs.Prelude.{◌≡◌, Bool, true, false, List, ◌↔◌, leb, eqb, length, Ok, Some, Err, None}
use Rattle.std.proofs.Math.Path.{refl}
use Rattle.std.proofs.Common.{sym, ap, ◌∙◌, leb-true, eqb-true}
use Prim.Native.Nat.{ℕ, zero, suc, ◌+◌, ◌*◌, ◌≤◌, ◌<◌}
use Rattle.std.proofs.Math.Decide.{dec_lt}
use native.Mathlib.Omega.{arith}
use Rattle.laws.specs.Lemmas.Truth.{both_true}
use Rattle.laws.specs.Truth.{within}
use Rattle.laws.specs.Refusals.{refusal_at, number_of, place_of}
use Rattle.laws.specs.Lemmas.Refusals.{refused-done}
use Rattle.laws.specs.declared.Refusal.{Refusal}
use Rattle.rows.specs.Rows.{or_else}
use Rattle.rows.specs.Failing.{Least, in_order, failing_in, lowest_failing, kept_nowhere, never, none_of}
use Rattle.rows.proofs.Failing.{faultless}
use Rattle.headers.specs.declared.Table.TheVariants.{Program, Keygroup}
use Rattle.headers.specs.Tables.{rows_of}
use Rattle.headers.specs.Order.{tables_in_order}
use Rattle.program.specs.Program.{table_of, part_at, keygroups_of, part_fault, parts_fault, counted, answer_of, program_of, PartKept, PartFails, Sized, ProgramRules, Fails}
use Rattle.program.specs.Lemmas.Arms.{program_short, uncounted, program_answer}
use Rattle.laws.specs.Scan.{Lowest}

-- ---- the parts from part k on

-- One of the n parts from part k on breaks its table at this offset.
record FailsFrom (file : List ℕ) (k n place : ℕ) : Type 0 where
  pub index : ℕ
  pub from : k ≤ index
  pub below : index < k + n
  pub failing : PartFails file index place

part_order : (k : ℕ) → in_order 0 150 (rows_of (table_of k)) ≡ true
part_order zero = tables_in_order Program
part_order (suc k) = tables_in_order Keygroup

module _ (file : List ℕ) where
  part_in : (k place : ℕ) → PartFails file k place → (150 * k ≤ place) × (place < 150 * k + 150)
  part_in k place f = let g = failing_in (part_at file k) (150 * k) (rows_of (table_of k)) 0 150 (part_order k) place f in (omega arith, omega arith)

  part_least : (k place : ℕ) → part_fault file k ≡ Some place → Least (PartFails file k) place
  unfolding part_fault
  part_least k place e = lowest_failing (part_at file k) (150 * k) (rows_of (table_of k)) 0 150 place (part_order k) e

  part_kept : (k : ℕ) → (part_fault file k ≡ None) ↔ PartKept file k
  unfolding part_fault
  part_kept k = faultless (part_at file k) (150 * k) (rows_of (table_of k))

  first_fault_of : (k n place : ℕ) (w : Lowest) → part_fault file k ≡ w → or_else w (parts_fault file (suc k) n) ≡ Some place
      → (parts_fault file (suc k) n ≡ Some place → Least (FailsFrom file (suc k) n) place) → Least (FailsFrom file k (suc n)) place
  first_fault_of k n place (Some x) e p ih =
      let q : x ≡ place = cc in
      let l = part_least k place (e ∙ p) in
      record {
        holds = record { index = k; from = omega arith; below = omega arith; failing = l.holds };
        least = λ other f. from l other f (dec_lt k f.index);
      }
    where
      from : Least (PartFails file k) place → (other : ℕ) (f : FailsFrom file k (suc n) other) → Dec (k < f.index) → place ≤ other
      from l other f (yes h) =
          let g = part_in k place l.holds in
          let u = part_in f.index other f.failing in
          omega arith
      from l other f (no h) =
          let o : f.index ≡ k = omega (arith, f.from) in l.least other (rw o at f.failing)
  first_fault_of k n place None e p ih =
      let l = ih p in
      record {
        holds = record { index = l.holds.index; from = omega (arith, l.holds.from); below = omega (arith, l.holds.below); failing = l.holds.failing };
        least = λ other f. from l other f (dec_lt k f.index);
      }
    where
      from : Least (FailsFrom file (suc k) n) place → (other : ℕ) (f : FailsFrom file k (suc n) other) → Dec (k < f.index) → place ≤ other
      from l other f (yes h) = l.least other (record { index = f.index; from = omega arith; below = omega (arith, f.below); failing = f.failing })
      from l other f (no h) =
          let o : f.index ≡ k = omega (arith, f.from) in
          absurd (kept_nowhere (part_at file k) (150 * k) (rows_of (table_of k)) ((part_kept k).0 e) other (rw o at f.failing))

  -- what some parts give is the lowest of their failing offsets
  parts_least : (n k place : ℕ) → parts_fault file k n ≡ Some place → Least (FailsFrom file k n) place
  unfolding parts_fault
  parts_least zero k place e = absurd (never (sym e))
  parts_least (suc n) k place e = first_fault_of k n place (part_fault file k) refl e (λ f. parts_least n (suc k) place f)

  -- they give none exactly where each is kept
  parts→kept : (n k : ℕ) → parts_fault file k n ≡ None → (j : ℕ) → k ≤ j → j < k + n → PartKept file j
  unfolding parts_fault
  parts→kept zero k e j h l = absurd (omega arith)
  parts→kept (suc n) k e j h l = go (none_of (part_fault file k) (parts_fault file (suc k) n) e) (parts→kept n (suc k)) (dec_lt k j)
    where
      go : (part_fault file k ≡ None) × (parts_fault file (suc k) n ≡ None) → (parts_fault file (suc k) n ≡ None → (i : ℕ) → suc k ≤ i → i < suc k + n → PartKept file i) → Dec (k < j) → PartKept file j
      go d ih (yes p) = ih d.1 j (omega arith) (omega arith)
      go d ih (no p) = let o : k ≡ j = omega arith in rw o at ((part_kept k).0 d.0)

  kept→parts : (n k : ℕ) → ((j : ℕ) → k ≤ j → j < k + n → PartKept file j) → parts_fault file k n ≡ None
  unfolding parts_fault
  kept→parts zero k h = refl
  kept→parts (suc n) k h =
      let e : part_fault file k ≡ None = (part_kept k).1 (h k (omega arith) (omega arith)) in
      rw e (kept→parts n (suc k) (λ j p q. h j (omega arith) (omega arith)))

-- ---- the whole file

counted→ : (file : List ℕ) (n : ℕ) → keygroups_of file ≡ n → counted file n ≡ true → Sized file n
counted→ file n s e =
    let d = both_true (within 1 99 n) (eqb (length file) (150 * (n + 1))) e in
    let r = both_true (leb 1 n) (leb n 99) d.0 in
    record { stated = s; some = leb-true 1 n r.0; most = leb-true n 99 r.1; size = eqb-true (length file) (150 * (n + 1)) d.1 }

-- of a sized file the parts decide
sized_answer : (file : List ℕ) (n : ℕ) → Sized file n → program_of file ≡ answer_of n (parts_fault file 0 (n + 1))
sized_answer file n s = sym (program_answer file (omega (arith, s.size)) (sym s.stated) s.some s.most s.size refl refl refl)

answer_done : (m n : ℕ) (w : Lowest) → answer_of m w ≡ Ok n → (m ≡ n) × (w ≡ None)
answer_done m n (Some place) e = absurd (refused-done e)
answer_done m n None e = (cc, refl)

answer_refused : (m : ℕ) (r : Refusal) (w : Lowest) → answer_of m w ≡ Err r → (number_of r ≡ 20) × (w ≡ Some (place_of r))
answer_refused m r (Some x) e = let z : r ≡ refusal_at 20 x = cc in (ap (λ (q : Refusal). (number_of q)) z, ap (λ (q : Refusal). Some (place_of q)) (sym z))
answer_refused m r None e = absurd (refused-done (sym e))

module _ (file : List ℕ) (n : ℕ) where
  done_sized : program_of file ≡ Ok n → Sized file n
  done_sized e = go (dec_lt (length file) 150) (counted file (keygroups_of file)) refl
    where
      go : Dec (length file < 150) → (u : Bool) → counted file (keygroups_of file) ≡ u → Sized file n
      go (yes h) u c = absurd (refused-done (program_short file h refl ∙ e))
      go (no h) false c = absurd (refused-done (uncounted file (omega arith) refl c refl ∙ e))
      go (no h) true c =
          let m : ℕ = keygroups_of file in
          let s : Sized file m = counted→ file m refl c in
          let d = answer_done m n (parts_fault file 0 (m + 1)) (sym (sized_answer file m s) ∙ e) in
          rw d.0 at s

  done→ : program_of file ≡ Ok n → ProgramRules file n
  done→ e =
      let s = done_sized e in
      let d = answer_done n n (parts_fault file 0 (n + 1)) (sym (sized_answer file n s) ∙ e) in
      record { sized = s; kept = λ k h. parts→kept file (n + 1) 0 d.1 k (omega arith) (omega arith) }

  →done : ProgramRules file n → program_of file ≡ Ok n
  →done r = sized_answer file n r.sized ∙ ap (answer_of n) (kept→parts file (n + 1) 0 (λ j p q. r.kept j (omega arith)))

  -- A program is accepted with n keygroups exactly when the rules hold for n.
  pub program_accepted : (program_of file ≡ Ok n) ↔ ProgramRules file n
  program_accepted = (done→, →done)

  -- A file of the right length for its n keygroups is refused with 20 at its lowest failing offset.
  pub program_lowest : (r : Refusal) → Sized file n → program_of file ≡ Err r → (number_of r ≡ 20) × Least (Fails file n) (place_of r)
  program_lowest r s e =
      let d = answer_refused n r (parts_fault file 0 (n + 1)) (sym (sized_answer file n s) ∙ e) in
      let l = parts_least file (n + 1) 0 (place_of r) d.1 in (
        d.0,
        record {
          holds = record { index = l.holds.index; inside = omega (arith, l.holds.below); failing = l.holds.failing };
          least = λ other f. l.least other (record { index = f.index; from = omega arith; below = omega (arith, f.inside); failing = f.failing });
        },
      )

-- What each test of a program shows of its parts and of the check's answer, and the end of the loop over its parts.
-- By the definition's own tests, and the law of its fold. Assumes nothing.
use Rattle.std.specs.Prelude.{◌≡◌, List, ℕ, zero, suc, ◌+◌, ◌-◌, ◌*◌, ◌≤◌, ◌<◌, length, None}
use Rattle.std.proofs.Math.Path.{refl, sym}
use Rattle.std.proofs.Common.{◌∙◌}
use Rattle.std.proofs.Math.Bool.{true, false}
use borrow.Author.Tests.{lt-ltb, le-ltb, eq-eqb, ne_eqb}
use Rattle.laws.specs.Lemmas.Truth.{within_in, within_below, within_above}
use Rattle.laws.specs.Lemmas.Scan.{over_end}
use Rattle.rows.specs.Rows.{or_else}
use Rattle.headers.specs.declared.Table.TheVariants.{Keygroup}
use Rattle.program.specs.Program.{table_of, keygroups_of, part_fault, parts_fault, counted, refused_at, answer_of, program_of}
use Rattle.laws.specs.Scan.{Lowest}
use Rattle.laws.specs.Refusals.{Counted}

pub later_table : (k : ℕ) → (k ≡ 0 → ⊥) → Keygroup ≡ table_of k
later_table zero h = absurd (h refl)
later_table (suc k) h = refl

-- ---- the loop

-- what the parts from part k on give is what all n give
abbrev pub RestOf : List ℕ → ℕ → ℕ → Type 0
RestOf file n k = parts_fault file k (n - k) ≡ parts_fault file 0 n

pub parts_end : (file : List ℕ) (n k : ℕ) → RestOf file n k → n ≤ k → None ≡ parts_fault file 0 n
unfolding parts_fault
parts_end file n k v h = sym (over_end (λ i rest. or_else (part_fault file i) rest) None k n h) ∙ v

-- ---- the answer

module _ (file : List ℕ) {r : Counted} where
  pub program_short : length file < 150 → r ≡ refused_at 0 → r ≡ program_of file
  unfolding program_of
  program_short h e = rw (e, lt-ltb (length file) 150 h, program_of) refl

  pub uncounted : {n : ℕ} → 150 ≤ length file → n ≡ keygroups_of file → counted file n ≡ false → r ≡ refused_at 42 → r ≡ program_of file
  unfolding program_of
  uncounted h e k t = let q : counted file (keygroups_of file) ≡ false = rw e at k in rw (t, le-ltb (length file) 150 h, program_of, q) refl

  pub program_none : {n : ℕ} → 150 ≤ length file → n ≡ keygroups_of file → n < 1 → r ≡ refused_at 42 → r ≡ program_of file
  program_none {n} h e k t = uncounted h e (rw (within_below 1 99 n k) refl) t

  pub program_many : {n : ℕ} → 150 ≤ length file → n ≡ keygroups_of file → 99 < n → r ≡ refused_at 42 → r ≡ program_of file
  program_many {n} h e k t = uncounted h e (rw (within_above 1 99 n k) refl) t

  pub program_length : {n : ℕ} → 150 ≤ length file → n ≡ keygroups_of file → 1 ≤ n → n ≤ 99 → (length file ≡ 150 * (n + 1) → ⊥) → r ≡ refused_at 42 → r ≡ program_of file
  program_length {n} h e j k l t = uncounted h e (rw (within_in 1 99 n j k, ne_eqb (length file) (150 * (n + 1)) l) refl) t

  pub program_answer : {n : ℕ} {f g : Lowest} → 150 ≤ length file → n ≡ keygroups_of file → 1 ≤ n → n ≤ 99 → length file ≡ 150 * (n + 1) → f ≡ parts_fault file 0 (n + 1)
      → f ≡ g → r ≡ answer_of n g → r ≡ program_of file
  unfolding program_of
  program_answer {n} h e j k l w s t =
      let q : counted file n ≡ true = rw (within_in 1 99 n j k, eq-eqb (length file) (150 * (n + 1)) l) refl in
      let u : counted file (keygroups_of file) ≡ true = rw e at q in
      rw (t, le-ltb (length file) 150 h, program_of, u, ← s, w, e) refl

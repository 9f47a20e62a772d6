-- S1000 program files (document 01, "The files"): the answer of their check, and beside it the rules as a record.
-- A program's parts are its header and its keygroups, 150 bytes each. Assumes nothing.
use Rattle.std.specs.Prelude.{◌≡◌, Bool, List, ℕ, zero, suc, ◌+◌, ◌*◌, ◌≤◌, ltb, eqb, length, Ok, Some, Err, None}
use Rattle.laws.specs.Truth.{pick, both, within}
use Rattle.laws.specs.Refusals.{refusal_at, Counted}
use Rattle.laws.specs.Scan.{over, Lowest}
use Rattle.laws.specs.Splice.{part}
use Rattle.laws.specs.Reader.{bytes}
use Rattle.rows.specs.Rows.{or_else, rows_fault}
use Rattle.rows.specs.Failing.{AllKept, Failing}
use Rattle.headers.specs.declared.Table.{Table}
use Rattle.headers.specs.declared.Table.TheVariants.{Program, Keygroup}
use Rattle.headers.specs.Tables.{rows_of}

-- ---- parts

-- Part 0 is the program's header, the others are keygroups.
abbrev pub table_of : ℕ → Table
table_of zero = Program
table_of (suc k) = Keygroup

abbrev pub part_at : List ℕ → ℕ → List ℕ
part_at file k = part file (150 * k) 150

-- The number of keygroups, at offset 42.
abbrev pub keygroups_of : List ℕ → ℕ
keygroups_of file = bytes file 42

-- ---- the check

-- The lowest offset of the file where part k breaks its table.
unfoldable pub part_fault : List ℕ → ℕ → Lowest
unfolding part rows_fault
part_fault file k = rows_fault (part_at file k) (150 * k) (rows_of (table_of k))

-- The same of the n parts from part k on: the lowest there is (`program_lowest`).
unfoldable pub parts_fault : List ℕ → ℕ → ℕ → Lowest
unfolding over part_fault
parts_fault file k n = over (λ i rest. or_else (part_fault file i) rest) None k n

-- From 1 to 99 keygroups, and the length that they and the header make.
abbrev pub counted : List ℕ → ℕ → Bool
counted file n = both (within 1 99 n) (eqb (length file) (150 * (n + 1)))

-- Refusal 20.
abbrev pub refused_at : ℕ → Counted
refused_at place = Err (refusal_at 20 place)

abbrev pub answer_of : ℕ → Lowest → Counted
answer_of n (Some place) = refused_at place
answer_of n None = Ok n

-- The check's answer: 20 at 0 for a file shorter than its header, at 42 for the number of keygroups or the length, else at the lowest failing offset.
unfoldable pub program_of : List ℕ → Counted
unfolding parts_fault
program_of file =
    let n = keygroups_of file in
    pick (ltb (length file) 150) (refused_at 0) (pick (counted file n) (answer_of n (parts_fault file 0 (n + 1))) (refused_at 42))

-- ---- the rules

-- Part k keeps every row of its table, or breaks one at this offset of the file.
abbrev pub PartKept : List ℕ → ℕ → Type 0
PartKept file k = AllKept (part_at file k) (150 * k) (rows_of (table_of k))

abbrev pub PartFails : List ℕ → ℕ → ℕ → Type 0
PartFails file k place = Failing (part_at file k) (150 * k) (rows_of (table_of k)) place

-- A file of n keygroups: 42 says so, and the length is theirs and the header's.
pub record Sized (file : List ℕ) (n : ℕ) : Type 0 where
  pub stated : keygroups_of file ≡ n
  pub some : 1 ≤ n
  pub most : n ≤ 99
  pub size : length file ≡ 150 * (n + 1)

-- A right program of n keygroups.
pub record ProgramRules (file : List ℕ) (n : ℕ) : Type 0 where
  pub sized : Sized file n
  pub kept : (k : ℕ) → k ≤ n → PartKept file k

-- The header or one of n keygroups breaks its table at this offset.
pub record Fails (file : List ℕ) (n place : ℕ) : Type 0 where
  pub index : ℕ
  pub inside : index ≤ n
  pub failing : PartFails file index place

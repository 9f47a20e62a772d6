-- Rules for the numbers of a header and tables of such rules (document 01, "The files"): what a row asks, and the first place where a table is broken.
-- A row is a run of numbers under one rule; a table is a list of rows in the paper's order. Assumes nothing.
use Rattle.std.specs.Prelude.{◌≡◌, Bool, true, false, not, List, [], ◌∷◌, ℕ, ◌+◌, ◌*◌, ◌<◌, leb, eqb, Some, None}
use Rattle.laws.specs.Truth.{pick, within}
use Rattle.laws.specs.Scan.{lowest, Lowest}
use Rattle.laws.specs.Reader.{bytes}
use Rattle.blocks.specs.Numbers.{number, top}
use Rattle.names.specs.Names.{akaii_byte, ascii_byte}
use Rattle.rows.specs.declared.Width.{Width}
use Rattle.rows.specs.declared.Width.TheVariants.{One, Two, Four}
use Rattle.rows.specs.declared.Rule.{Rule}
use Rattle.rows.specs.declared.Rule.TheVariants as rule
use Rattle.rows.specs.declared.Row.{Row}
use Rattle.rows.specs.declared.Row.TheVariants.{Only, From, Within, OrOff, OneOf, Name, Ascii, Zeros, AllFrom, AllWithin, Word, Past, WordsWithin, AtMost}
use Rattle.rows.specs.declared.Run.{Run}

-- ---- rows

-- The bytes of a number.
abbrev pub size_of : Width → ℕ
size_of One = 1
size_of Two = 2
size_of Four = 4

-- One byte; bytes that are each their own place; numbers whose place is the first's.
abbrev pub byte_run : ℕ → Rule → Run
byte_run at r = record { at = at; count = 1; width = One; own = false; rule = r }

abbrev pub each_run : ℕ → ℕ → Rule → Run
each_run at count r = record { at = at; count = count; width = One; own = true; rule = r }

abbrev pub group_run : ℕ → ℕ → Width → Rule → Run
group_run at count width r = record { at = at; count = count; width = width; own = false; rule = r }

-- The numbers of a row and their rule.
abbrev pub run_of : Row → Run
run_of (Only at v) = byte_run at (rule.From v v)
run_of (From at low high) = byte_run at (rule.From low high)
run_of (Within at n) = byte_run at (rule.Within n)
run_of (OrOff at n) = byte_run at (rule.OrOff n)
run_of (OneOf at a b d) = byte_run at (rule.OneOf a b d)
run_of (Name at count) = each_run at count rule.Akaii
run_of (Ascii at count) = each_run at count rule.Ascii
run_of (Zeros at count) = each_run at count (rule.From 0 0)
run_of (AllFrom at count low high) = group_run at count One (rule.From low high)
run_of (AllWithin at count n) = group_run at count One (rule.Within n)
run_of (Word at v) = group_run at 1 Two (rule.From v v)
run_of (Past at n) = group_run at 1 Two (rule.Past n)
run_of (WordsWithin at count n) = group_run at count Two (rule.Within n)
run_of (AtMost at other) = group_run at 1 Four (rule.AtMost other)

-- ---- rules

-- Whether the number v of `size` bytes keeps a rule, in a header whose first byte is at offset `base` of its file. From -n to n in two's
-- complement is up to n, or at most n below the first number that takes more bytes (`legal_signed`).
unfoldable pub legal : List ℕ → ℕ → ℕ → Rule → ℕ → Bool
unfolding number akaii_byte ascii_byte
legal header base size (rule.From low high) v = within low high v
legal header base size (rule.Within n) v = pick (leb v n) true (leb (top size) (v + n))
legal header base size (rule.OrOff n) v = pick (leb v n) true (eqb v 255)
legal header base size (rule.OneOf a b d) v = pick (eqb v a) true (pick (eqb v b) true (eqb v d))
legal header base size (rule.AtMost other) v = leb v (number 4 (bytes header) other)
legal header base size (rule.Past n) v = eqb v (base + n)
legal header base size rule.Akaii v = akaii_byte v
legal header base size rule.Ascii v = ascii_byte v

-- What a function that reads a number of a width answers.
pub record Read (header : List ℕ) (at : ℕ) (width : Width) (r : ℕ) : Type 0 where
  pub value : r ≡ number (size_of width) (bytes header) at
  pub small : r < 4294967296

-- Number j of a run keeps the run's rule, or breaks it.
unfoldable pub keeps : List ℕ → ℕ → Run → ℕ → Bool
unfolding legal number
keeps header base run j =
    let size = size_of run.width in legal header base size run.rule (number size (bytes header) (run.at + size * j))

abbrev pub breaks : List ℕ → ℕ → Run → ℕ → Bool
breaks header base run j = not (keeps header base run j)

-- The place that number j of a run gives as a fault: in names and zeros the byte's own offset, else the row's first (document 01, "The files").
abbrev pub place_of : ℕ → Run → ℕ → ℕ
place_of base run j = pick run.own (base + run.at + j) (base + run.at)

-- ---- faults

-- The place of the first number that breaks a run's rule.
abbrev pub placed : ℕ → Run → Lowest → Lowest
placed base run None = None
placed base run (Some j) = Some (place_of base run j)

unfoldable pub run_fault : List ℕ → ℕ → Run → Lowest
unfolding lowest keeps
run_fault header base run = placed base run (lowest (breaks header base run) 0 run.count)

abbrev pub row_fault : List ℕ → ℕ → Row → Lowest
row_fault header base row = run_fault header base (run_of row)

-- The first of two places that there is.
abbrev pub or_else : Lowest → Lowest → Lowest
or_else (Some place) other = Some place
or_else None other = other

-- The fault of the first row of a table that has one: the lowest there is, as the rows of a table rise (`lowest_failing`).
unfoldable pub rows_fault : List ℕ → ℕ → List Row → Lowest
unfolding run_fault
rows_fault header base [] = None
rows_fault header base (row ∷ rows) = or_else (row_fault header base row) (rows_fault header base rows)

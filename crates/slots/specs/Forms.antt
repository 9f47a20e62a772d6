-- What the pass over the slots' forms answers. Assumes nothing.
use Rattle.std.specs.Prelude.{ℕ, Ok, None, Some, Err}
use Rattle.laws.specs.Refusals.{refusal_at, Counted}
use Rattle.laws.specs.Scan.{Lowest}

-- Refusal 4 at the malformed slot found, else the number of used ones.
abbrev pub or_used : Lowest → ℕ → Counted
or_used (Some s) n = Err (refusal_at 4 s)
or_used None n = Ok n

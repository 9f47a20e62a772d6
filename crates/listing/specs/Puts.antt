-- What the functions promise that put a text into an output: where it stands, what they leave, and where the next one goes. Assumes nothing.
use Rattle.std.specs.Prelude.{◌≡◌, List, ◌++◌, ℕ, ◌+◌, ◌≤◌, length, drop}
use Rattle.laws.specs.Splice.{splice}

-- A text at an index of the output, at most so long, and the index past it.
pub record Puts (most : ℕ) (text : List ℕ) (at : ℕ) (before after : List ℕ) (next : ℕ) : Type 0 where
  pub out : after ≡ splice before at text
  pub count : next ≡ at + length text
  pub near : next ≤ at + most

-- A text at the front of an output that has room for it; the rest of the output is kept.
pub record Fills (text before after : List ℕ) (next : ℕ) : Type 0 where
  pub out : after ≡ text ++ drop (length text) before
  pub count : next ≡ length text
  pub room : length text ≤ length before
  -- this follows: a caller reads the front by it
  pub front : next ≤ length after

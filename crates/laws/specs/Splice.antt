-- A list with others of its elements from an offset on, and the part of a list. Assumes nothing.
use Rattle.std.specs.Prelude.{List, ℕ, take, drop}
use Rattle.std.proofs.lemmas.List.Edits.{sets}

-- l with the elements of vs from index at on; what would lie past l's end is left out
unfoldable pub splice : List ℕ → ℕ → List ℕ → List ℕ
splice l at vs = sets l at vs

-- the n elements of l from index at on
unfoldable pub part : List ℕ → ℕ → ℕ → List ℕ
part l at n = take n (drop at l)

-- A list with zeros after it. Assumes nothing.
use Rattle.std.specs.Prelude.{List, ◌++◌, ℕ, ◌-◌, length, replicate}

unfoldable pub padded : List ℕ → ℕ → List ℕ
padded values size = values ++ replicate (size - length values) 0

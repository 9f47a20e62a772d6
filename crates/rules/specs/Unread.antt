-- A first directory that isn't in use is neither read nor changed by any call, but for its byte 16, which tells the kind (document 02, request five).
-- Directory in use, map and data blocks lie past it, so images that differ in it alone show one disk; whatever is written is written to both. Assumes nothing.
use Rattle.std.specs.Prelude.{◌≡◌, List, length}
use Prim.Native.Nat.{ℕ, ◌≤◌}
use Rattle.laws.specs.Reader.{bytes}
use Rattle.layout.specs.Layouts.{map_offset}
use Rattle.record.specs.Record.{Outcome}

-- y is x but for the first directory; its byte 16 is the same.
pub record SameButFirst (x y : List ℕ) : Type 0 where
  pub size : length y ≡ length x
  pub type : bytes y 16 ≡ bytes x 16
  pub rest : (i : ℕ) → map_offset 0 ≤ i → bytes y i ≡ bytes x i

-- Two calls come to the same but for the first directory.
pub record Unseen (p q : Outcome (List ℕ)) : Type 0 where
  pub answer : q.answer ≡ p.answer
  pub output : q.output ≡ p.output
  pub state : SameButFirst p.state q.state

-- A part that ends at the list's end at the latest: a count or an end past the list's length may be cut to it.
-- By induction on the list, and `min` taken apart. Assumes nothing.
use Rattle.std.specs.Prelude.{◌≡◌, List, [], ◌∷◌, ℕ, zero, suc, ◌+◌, ◌-◌, ◌≤◌, min, length, take, drop}
use Rattle.std.proofs.Common.{sym, ap, ◌∙◌, arith, length-drop}
use Rattle.std.proofs.Math.Nat.{suc-min-suc, zero-min}
use Rattle.std.proofs.Math.Seq.{take-nil}

pub take_clip : (n : ℕ) (l : List ℕ) → take (min n (length l)) l ≡ take n l
take_clip n [] = take-nil (min n 0) ∙ sym (take-nil n)
take_clip zero (x ∷ l) = rw zero-min
take_clip (suc n) (x ∷ l) = rw suc-min-suc (ap (λ (r : List ℕ). x ∷ r) (take_clip n l))

-- the part from `from` to an end e that is cut to the list's length
pub part_clip : (l : List ℕ) (from n e : ℕ) → e ≡ min (length l) (from + n) → from ≤ length l → take (e - from) (drop from l) ≡ take n (drop from l)
part_clip l from n e h k =
    let q : e - from ≡ min n (length (drop from l)) = omega (arith, length-drop from l) in rw q (take_clip n (drop from l))

-- Bytes read by their offsets through a function: lists of them, and readers that agree on a range.
-- A definition over a reader computes on sparse bytes as on a real list. Assumes nothing.
use Rattle.std.specs.Prelude.{◌≡◌, List, ℕ, ◌+◌, ◌≤◌, ◌<◌, length}
use Rattle.std.proofs.Common.{sym, ◌∙◌, arith, ext_get_or}
use Rattle.laws.specs.Splice.{part}
use Rattle.laws.specs.Lemmas.Splice.{length_part, get_or_part}
use Rattle.laws.specs.Reader.{bytes, tab}
use Rattle.laws.specs.Lemmas.Reader.{length-tab, get_or-tab}

-- a part of a list, as code copies it
pub tab-part : (l : List ℕ) (a n : ℕ) → a + n ≤ length l → tab (bytes l) a n ≡ part l a n
tab-part l a n h =
    ext_get_or 0 (tab (bytes l) a n) (part l a n) (length-tab (bytes l) a n ∙ sym (length_part l a n h))
    (λ k p. let q : k < n = omega (arith, length-tab (bytes l) a n) in get_or-tab (bytes l) a n k q ∙ sym (get_or_part l a n k q))

-- A loop that searches for the lowest place: what the rest finds is what the whole finds. Its start, its stop, its next turn and its end.
-- By the laws of `lowest`; r is what the code answers of the place in hand. Assumes nothing.
use Rattle.std.specs.Prelude.{◌≡◌, Bool, true, false, ℕ, ◌+◌, ◌≤◌, ◌<◌, Some, None}
use Rattle.std.proofs.Common.{sym, ◌∙◌, arith}
use Rattle.laws.specs.Scan.{lowest}
use Rattle.laws.specs.Lemmas.Scan.{lowest_end, lowest_stop, lowest-on}
use Rattle.laws.specs.Lemmas.Search.{Searched}

module _ (f : ℕ → Bool) (n i : ℕ) (s : Searched f n i) where
  pub searched_found : i < n → {r : Bool} → r ≡ f i → r ≡ true → Some i ≡ lowest f 0 n
  searched_found h e t = sym (lowest_stop f i n h (sym e ∙ t)) ∙ s.1

  pub searched_more : i < n → {r : Bool} → r ≡ f i → r ≡ false → Searched f n (i + 1)
  searched_more h e t = (omega arith, sym (lowest-on f i n h (sym e ∙ t)) ∙ s.1)

  pub searched_all : n ≤ i → None ≡ lowest f 0 n
  searched_all h = sym (lowest_end f i n h) ∙ s.1

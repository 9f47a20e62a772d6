-- A walk that notes its blocks in a list: once it has gone through a whole chain, the list begins with it.
-- Each block is noted at its own place, as far as the list goes, and a whole chain is no longer. Assumes nothing.
use Rattle.std.specs.Prelude.{◌≡◌, refl, Bool, true, false, List, ℕ, ◌+◌, ◌≤◌, ◌<◌, ltb, length, take, get_or, set}
use Rattle.std.proofs.Common.{sym, ◌∙◌, arith, length-set, length-take, ext_get_or, get_or-take, get_or-set_same, get_or-set_other, ltb-true, ltb-false}
use Rattle.std.proofs.Math.Decide.{ℕ_discrete}
use Rattle.laws.specs.Truth.{pick}
use Rattle.layout.specs.declared.Layout.{Layout}
use Rattle.layout.specs.Right.{LayoutRight}
use Rattle.map.specs.Map.{Chained, chain}
use Rattle.map.specs.Lemmas.Chains.{length-chain, chain_short}
use Rattle.map.proofs.Lemmas.Walks.{walk_chained}
use Rattle.mend.specs.Steps.{chain_said, Noted}
use Rattle.mend.specs.Lemmas.Walking.{said_one}

-- The first k blocks are noted, as far as the list goes.
pub record Noting (list blocks : List ℕ) (k : ℕ) : Type 0 where
  pub size : length list ≡ 1600
  pub put : (j : ℕ) → j < k → j < 1600 → get_or list j 0 ≡ get_or blocks j 0

pub noting_none : (list blocks : List ℕ) → length list ≡ 1600 → Noting list blocks 0
noting_none list blocks e = record { size = e; put = λ j h. absurd (omega arith) }

module _ (list blocks : List ℕ) (k block : ℕ) (n : Noting list blocks k) (is : block ≡ get_or blocks k 0) where
  one_by : (t : Bool) → ltb k 1600 ≡ t → {after : List ℕ} → after ≡ pick t (set list k block) list → Noting after blocks (k + 1)
  one_by true e {after} w = rw w (record { size = length-set list k block ∙ n.size; put = λ j h i. go j h i (ℕ_discrete j k) })
    where
      go : (j : ℕ) → j < k + 1 → j < 1600 → Dec (j ≡ k) → get_or (set list k block) j 0 ≡ get_or blocks j 0
      go j h i (yes z) = rw z (get_or-set_same list k block 0 (omega (arith, n.size, ltb-true k 1600 e)) ∙ is)
      go j h i (no z) = get_or-set_other list k j block 0 z ∙ n.put j (omega arith) i
  one_by false e {after} w = rw w (record { size = n.size; put = λ j h i. n.put j (omega (arith, ltb-false k 1600 e)) i })

  pub noting_one : {after : List ℕ} → after ≡ pick (ltb k 1600) (set list k block) list → Noting after blocks (k + 1)
  noting_one = one_by (ltb k 1600) refl

noting_all : (list blocks : List ℕ) → length blocks ≤ 1600 → Noting list blocks (length blocks) → take (length blocks) list ≡ blocks
noting_all list blocks h n =
    ext_get_or 0 (take (length blocks) list) blocks (omega (arith, length-take (length blocks) list, n.size))
    (λ i k. let z : i < length blocks = omega (arith, length-take (length blocks) list) in get_or-take (length blocks) list i 0 z ∙ n.put i z (omega arith))

-- a slot that isn't kept
pub noted_not : {list blocks : List ℕ} {verdict : ℕ} → length list ≡ 1600 → (verdict ≡ 1 → ⊥) → Noted list verdict blocks
noted_not e n = record { size = e; front = λ p. absurd (n p) }

-- a chain of which 1 is said
pub noted_whole : (l : Layout) → LayoutRight l → (m : ℕ → ℕ) (marks : List Bool) (links start : ℕ) {list : List ℕ} {verdict : ℕ} → verdict ≡ chain_said l m marks false links start
    → Noting list (chain m links start) (links + 1) → Noted list verdict (chain m links start)
noted_whole l right m marks links start {list} e n = record {
  size = n.size;
  front = λ p.
      let c : Chained l m links start = walk_chained l m links start (said_one l m marks false links start (sym e ∙ p)) in
      let z : length (chain m links start) ≡ links + 1 = length-chain m links start ∙ omega arith in
      noting_all list (chain m links start) (omega (arith, z, chain_short l right m links start c, right.blocks_most)) (rw z n);
}

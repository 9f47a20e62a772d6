-- A loop that collects blocks in an array: were those still to come written after those in it, it would hold all of them.
-- A write of blocks stores the first and then the others, and none that is to come leaves the array. Assumes nothing.
use Rattle.std.specs.Prelude.{◌≡◌, refl, List, [], ◌∷◌, ℕ, ◌+◌, ◌-◌, ◌≤◌, length, take, set, replicate}
use Rattle.std.proofs.Common.{sym, ap, ◌∙◌, zero-add, add-one, arith}
use Rattle.std.proofs.Math.Seq.{take-nil}
use Rattle.laws.specs.Splice.{splice}
use Rattle.laws.specs.Lemmas.Padded.{splice_zeros}
use Rattle.map.specs.declared.collection.Blocks.{Blocks}
use Rattle.map.specs.Map.{Collected, free_from}
use Rattle.map.specs.Lemmas.Free.{free_end}

-- n of all blocks are in the list, which was `zeros` at first, and the rest is to come
pub record Collecting (zeros all list rest : List ℕ) (n : ℕ) : Type 0 where
  pub count : n + length rest ≡ length all
  pub whole : splice list n rest ≡ splice zeros 0 all

pub collect_none : (zeros all : List ℕ) {rest : List ℕ} → rest ≡ all → Collecting zeros all zeros rest 0
collect_none zeros all e = rw e (record { count = zero-add (length all); whole = refl })

-- one block more, at index n
pub collect_one : (list : List ℕ) (n b : ℕ) {zeros all tail rest : List ℕ} → tail ≡ b ∷ rest → Collecting zeros all list tail n → Collecting zeros all (set list n b) rest (n + 1)
unfolding splice
collect_one list n b t c = record { count = omega (arith, ap length t, c.count); whole = rw add-one (ap (splice list n) (sym t) ∙ c.whole) }

-- the end: none is to come
pub collect_end : (r : Blocks) {all rest : List ℕ} → r.count ≤ 1600 → rest ≡ [] → Collecting (replicate 1600 0) all r.list rest r.count → Collected all r
unfolding splice
collect_end r {all} h t c =
    let few : length all ≤ 1600 = omega (arith, ap length t, c.count) in
    record { few = few; count = omega (arith, ap length t, c.count); list = ap (splice r.list r.count) (sym t) ∙ c.whole ∙ splice_zeros 1600 all few }

-- ---- the free blocks still to come, from block i on, where k of those wanted are there

module _ (m : ℕ → ℕ) (i n k wanted : ℕ) where
  pub wanted_end : n ≤ i → take (wanted - k) (free_from m i (n - i)) ≡ []
  wanted_end h = ap (take (wanted - k)) (free_end m i n h) ∙ take-nil (wanted - k)

  pub wanted_full : wanted ≤ k → take (wanted - k) (free_from m i (n - i)) ≡ []
  wanted_full h = let z : wanted - k ≡ 0 = omega arith in rw z

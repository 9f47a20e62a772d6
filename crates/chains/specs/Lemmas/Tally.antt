-- Two counts over the data area decide refusals 8 and 9 where no chain is broken: as many marked blocks as the chains have, and no other taken.
-- A list without repeats has as many numbers as elements, and of two tests that count alike the one implies the other. Assumes nothing.
use Rattle.std.specs.Prelude.{◌≡◌, true, false, length, get_or, None}
use Rattle.std.proofs.Math.Path.{refl, ap}
use Rattle.std.proofs.Common.{◌∙◌, add-one, length-append, ne_eqb}
use Rattle.std.proofs.Math.Bool.{Bool, not}
use mathlib.Core.List.{List, append-nil}
use Prim.Native.Nat.{ℕ, zero, suc, ◌+◌, ◌-◌, ◌≤◌, ◌<◌}
use Rattle.std.proofs.Math.Decide.{dec_lt}
use native.Mathlib.Omega.{arith}
use Rattle.std.proofs.Math.Dec.{eqb}
use Rattle.std.proofs.lemmas.Bool.{not-false}
use Rattle.laws.specs.Lemmas.Truth.{both_false, false_both}
use Rattle.laws.specs.Lemmas.Lists.{of_apart}
use Rattle.laws.specs.Scan.{lowest, count}
use Rattle.laws.specs.Lemmas.Scan.{nowhere→, →nowhere, count_cong, count_split, count_agree}
use Rattle.laws.specs.Member.{In, Distinct, has}
use Rattle.laws.specs.Lemmas.Member.{has_in, distinct_parts, count_distinct}
use Rattle.layout.specs.declared.Layout.{Layout}
use Rattle.layout.specs.Right.{LayoutRight}
use Rattle.blocks.specs.Blocks.{links_for}
use Rattle.map.specs.Map.{Data, chain, Chained, is_whole, free_count, marked, Marks}
use Rattle.map.specs.Lemmas.Chains.{length-chain, chain_data, chain-taken, chain_short}
use Rattle.map.specs.Lemmas.Marks.{marks_more}
use Rattle.map.specs.Lemmas.Walks.{whole_is}
use Rattle.map.proofs.Lemmas.Walks.{walk_chained}
use Rattle.view.specs.Disk.{View, used, entry_chain, chain_of, owned}
use Rattle.view.specs.Lemmas.Counting.{owned_by}
use Rattle.view.specs.Rules.{walk_of, broken, sharing, stray}
use Rattle.chains.specs.Passes.{taken}

-- They are the marked ones.
pub marks_taken : (l : Layout) → LayoutRight l → (v : View) (ms : List Bool) → Marks 1600 ms (owned v l.slots) → count (λ b. get_or ms b false) l.first (l.blocks - l.first) ≡ taken l v
marks_taken l right v ms m = count_cong (λ b. get_or ms b false) (has (owned v l.slots)) l.first (l.blocks - l.first) (λ b p q. m.mark b (omega (arith, q, right.blocks_most, right.data_some)))

pub free_most : (l : Layout) (m : ℕ → ℕ) → free_count l m ≤ l.blocks - l.first
unfolding free_count
free_most l m = omega (arith, count_split (λ k. eqb (m k) 0) l.first (l.blocks - l.first))

-- ---- the blocks of one slot more

module _ (v : View) (s : ℕ) where
  pub owned_empty : used (v.entry s) ≡ false → length (owned v (s + 1)) ≡ length (owned v s)
  unfolding owned chain_of
  owned_empty e = rw (add-one s, e, append-nil (owned v s)) refl

  pub owned-used : used (v.entry s) ≡ true → {k : ℕ} → k ≡ links_for (v.entry s).size → length (owned v (s + 1)) ≡ length (owned v s) + k + 1
  unfolding owned chain_of entry_chain
  owned-used u {k} e =
      rw (add-one s, u) (length-append (owned v s) (chain v.map (links_for (v.entry s).size) (v.entry s).start) ∙ omega (arith, length-chain v.map (links_for (v.entry s).size) (v.entry s).start, e))

  -- their marks: an empty slot has none, a chain adds its own
  pub empty_marks : used (v.entry s) ≡ false → (ms : List Bool) → Marks 1600 ms (owned v s) → Marks 1600 ms (owned v (s + 1))
  unfolding owned chain_of
  empty_marks e ms m = rw (add-one s, e, append-nil (owned v s)) m

  pub chain_marks : used (v.entry s) ≡ true → (k b : ℕ) → k ≡ links_for (v.entry s).size → b ≡ (v.entry s).start → ((x : ℕ) → In x (chain v.map k b) → x < 1600)
      → (ms : List Bool) → Marks 1600 ms (owned v s) → Marks 1600 (marked ms (chain v.map k b)) (owned v (s + 1))
  unfolding owned chain_of entry_chain
  chain_marks u k b e f inside ms m = rw (add-one s, u, ← e, ← f) (marks_more 1600 (chain v.map k b) ms (owned v s) inside m)

-- ---- where no chain is broken

module _ (l : Layout) (right : LayoutRight l) (v : View) (sound : lowest (broken l v) 0 l.slots ≡ None) where
  -- where no chain is broken, a used slot's is faultless
  pub slot_chained : (s : ℕ) → s < l.slots → used (v.entry s) ≡ true → Chained l v.map (links_for (v.entry s).size) (v.entry s).start
  unfolding broken walk_of
  slot_chained s h u =
      let fine = both_false (used (v.entry s)) (not (is_whole (walk_of l v s))) (nowhere→ (broken l v) 0 l.slots sound s (omega arith) (omega arith)) u in
      walk_chained l v.map (links_for (v.entry s).size) (v.entry s).start (whole_is (walk_of l v s) (not-false (is_whole (walk_of l v s)) fine))

  pub links_few : (s : ℕ) → s < l.slots → used (v.entry s) ≡ true → {k : ℕ} → k ≡ links_for (v.entry s).size → k + 1 ≤ 1600
  links_few s h u e = omega (arith, e, chain_short l right v.map _ _ (slot_chained s h u), right.blocks_most)

  -- so its blocks are data blocks that aren't free
  owned-on : (b : ℕ) → In b (owned v l.slots) → Data l b × (v.map b ≡ 0 → ⊥)
  unfolding entry_chain
  owned-on b h =
      let o = owned_by v l.slots b h in
      let c = slot_chained o.0 o.1 o.2 in
      (chain_data l right v.map _ _ b c o.3, chain-taken l right v.map _ _ b c o.3)

  below : (n s : ℕ) → s ≤ n → Distinct (owned v n) → Distinct (owned v s)
  unfolding owned
  below zero s h d = let z : s ≡ 0 = omega arith in rw z tt
  below (suc n) s h d = go (dec_lt n s) (below n s)
    where
      go : Dec (n < s) → (s ≤ n → Distinct (owned v n) → Distinct (owned v s)) → Distinct (owned v s)
      go (yes p) ih = let z : s ≡ suc n = omega arith in rw z d
      go (no p) ih = ih (omega arith) (distinct_parts (owned v n) (chain_of v n) d).0

  -- As many blocks on the chains as the chains have: no block is on two.
  pub tally_apart : taken l v ≡ length (owned v l.slots) → lowest (sharing l v) 0 l.slots ≡ None
  unfolding sharing owned
  tally_apart e =
      let inside : (x : ℕ) → In x (owned v l.slots) → (l.first ≤ x) × (x < l.first + (l.blocks - l.first)) =
      λ x h. let d = owned-on x h in (d.0.0, omega (arith, d.0.1, right.data_some)) in
      let distinct = count_distinct l.first (l.blocks - l.first) (owned v l.slots) inside e in
      →nowhere (sharing l v) 0 l.slots
      (λ s p q. of_apart (owned v s) (chain_of v s) (distinct_parts (owned v s) (chain_of v s) (below l.slots (suc s) (omega arith) distinct)).1)

  -- They and the free blocks are all: no other block is taken.
  pub tally_all : taken l v + free_count l v.map ≡ l.blocks - l.first
      → lowest (stray l v) l.first (l.blocks - l.first) ≡ None
  unfolding stray free_count
  tally_all e =
      let free : ℕ → Bool = λ k. eqb (v.map k) 0 in
      let n = l.blocks - l.first in
      let same : count (has (owned v l.slots)) l.first n ≡ count (λ k. not (free k)) l.first n = omega (arith, e, count_split free l.first n) in
      →nowhere (stray l v) l.first n
      (λ b p q. false_both (not (free b)) (not (has (owned v l.slots) b))
      (λ t. ap not (count_agree (has (owned v l.slots)) (λ k. not (free k)) l.first n
      (λ k h i u. ap not (ne_eqb (v.map k) 0 (owned-on k (has_in (owned v l.slots) k u)).1)) same b p q t)))

-- The rules read only the entries of the slots and the map values of the blocks: disks that agree on these are ruled alike.
-- Search by search; chains agree once the search for broken ones found nothing. Assumes nothing.
use Rattle.std.specs.Prelude.{◌≡◌, Bool, Ok, Some, None}
use Rattle.std.proofs.Math.Path.{refl, ap, ap₂}
use Rattle.std.proofs.Math.Bool.{true, false, not}
use mathlib.Core.List.{List, [], ◌++◌}
use Prim.Native.Nat.{ℕ, zero, suc, ◌-◌, ◌≤◌, ◌<◌}
use Rattle.std.proofs.Common.{arith}
use Rattle.std.proofs.lemmas.Bool.{not-false}
use Rattle.laws.specs.Truth.{pick, both}
use Rattle.laws.specs.Lemmas.Truth.{both_false}
use Rattle.laws.specs.Scan.{lowest, Lowest}
use Rattle.laws.specs.Lemmas.Scan.{nowhere→, at→, lowest_cong, any_cong}
use Rattle.laws.specs.Lists.{meets}
use Rattle.layout.specs.declared.Layout.{Layout}
use Rattle.layout.specs.Right.{LayoutRight}
use Rattle.blocks.specs.Blocks.{links_for}
use Rattle.map.specs.Map.{Walk, is_whole, fault_of}
use Rattle.map.specs.Lemmas.Chains.{chain_cong, chain_data}
use Rattle.map.specs.Lemmas.Walks.{walk_cong, whole_is}
use Rattle.map.proofs.Lemmas.Walks.{walk_chained}
use Rattle.view.specs.Disk.{View, used, entry_chain, chain_of, owned}
use Rattle.view.specs.Rules.{or_fail, bad_system, malformed, has_name_of, repeated, walk_of, broken, sharing, stray, rules, Ruled}

or_fail_cong : (f g : ℕ → ℕ) (a b : Lowest) (x y : Ruled) → a ≡ b → ((k : ℕ) → b ≡ Some k → f k ≡ g k) → (b ≡ None → x ≡ y) → or_fail f a x ≡ or_fail g b y
or_fail_cong f g a (Some k) x y e h n = rw (e, h k refl) refl
or_fail_cong f g a None x y e h n = rw e (n refl)

module _ (l : Layout) (right : LayoutRight l) (v w : View) (maps : (k : ℕ) → k < l.blocks → w.map k ≡ v.map k) (entries : (s : ℕ) → s < l.slots → w.entry s ≡ v.entry s) where
  same_system : lowest (bad_system l w) 0 l.system ≡ lowest (bad_system l v) 0 l.system
  unfolding bad_system
  same_system = lowest_cong (bad_system l w) (bad_system l v) 0 l.system (λ k p q. rw (maps k (omega (arith, right.system_low, right.data_some))) refl)

  same-formed : lowest (malformed l w) 0 l.slots ≡ lowest (malformed l v) 0 l.slots
  unfolding malformed
  same-formed = lowest_cong (malformed l w) (malformed l v) 0 l.slots (λ s p q. rw (entries s (omega arith)) refl)

  same-repeated : lowest (repeated l w) 0 l.slots ≡ lowest (repeated l v) 0 l.slots
  unfolding repeated has_name_of
  same-repeated =
      lowest_cong (repeated l w) (repeated l v) 0 l.slots
      (λ s p q.
      ap₂ both (ap used (entries s (omega arith)))
      (any_cong (has_name_of l w s) (has_name_of l v s) 0 s (λ t x y. rw (entries s (omega arith), entries t (omega arith)) refl)))

  same-walk : (s : ℕ) → s < l.slots → walk_of l w s ≡ walk_of l v s
  unfolding walk_of
  same-walk s h = rw (entries s h) (walk_cong l v.map w.map maps (links_for (v.entry s).size) (v.entry s).start)

  same-broken : lowest (broken l w) 0 l.slots ≡ lowest (broken l v) 0 l.slots
  unfolding broken
  same-broken =
      lowest_cong (broken l w) (broken l v) 0 l.slots
      (λ s p q. ap₂ both (ap used (entries s (omega arith))) (ap (λ (x : Walk). not (is_whole x)) (same-walk s (omega arith))))

  module _ (clean : lowest (broken l v) 0 l.slots ≡ None) where
    same-entry-chain : (s : ℕ) → s < l.slots → used (v.entry s) ≡ true → entry_chain w.map (w.entry s) ≡ entry_chain v.map (v.entry s)
    unfolding entry_chain broken walk_of
    same-entry-chain s h u =
        let n = links_for (v.entry s).size in
        let b = (v.entry s).start in
        let c = walk_chained l v.map n b (whole_is (walk_of l v s) (not-false (is_whole (walk_of l v s))
        (both_false (used (v.entry s)) (not (is_whole (walk_of l v s))) (nowhere→ (broken l v) 0 l.slots clean s (omega arith) (omega arith)) u))) in
        rw (entries s h) (chain_cong v.map w.map n b (λ x i. maps x (chain_data l right v.map n b x c i).1))

    chain_by : (s : ℕ) → s < l.slots → (u : Bool) → used (v.entry s) ≡ u → chain_of w s ≡ chain_of v s
    unfolding chain_of
    chain_by s h true u = ap₂ (λ (t : Bool) (x : List ℕ). pick t x []) (ap used (entries s h)) (same-entry-chain s h u)
    chain_by s h false u = rw (entries s h, u) refl

    same-chain : (s : ℕ) → s < l.slots → chain_of w s ≡ chain_of v s
    same-chain s h = chain_by s h (used (v.entry s)) refl

    same-owned : (n : ℕ) → n ≤ l.slots → owned w n ≡ owned v n
    unfolding owned
    same-owned zero h = refl
    same-owned (suc n) h = ap₂ (λ (x y : List ℕ). x ++ y) (same-owned n (omega arith)) (same-chain n h)

    same-sharing : lowest (sharing l w) 0 l.slots ≡ lowest (sharing l v) 0 l.slots
    unfolding sharing
    same-sharing =
        lowest_cong (sharing l w) (sharing l v) 0 l.slots (λ s p q. ap₂ meets (same-owned s (omega arith)) (same-chain s (omega arith)))

    same-stray : lowest (stray l w) l.first (l.blocks - l.first) ≡ lowest (stray l v) l.first (l.blocks - l.first)
    unfolding stray
    same-stray =
        lowest_cong (stray l w) (stray l v) l.first (l.blocks - l.first)
        (λ b p q. rw (maps b (omega (arith, right.data_some)), same-owned l.slots (omega arith)) refl)

  pub same-rules : rules l w ≡ rules l v
  unfolding rules
  same-rules =
      or_fail_cong (λ k. 3) (λ k. 3) (lowest (bad_system l w) 0 l.system) (lowest (bad_system l v) 0 l.system) _ _ same_system (λ k e. refl) (λ e.
      or_fail_cong (λ k. 4) (λ k. 4) (lowest (malformed l w) 0 l.slots) (lowest (malformed l v) 0 l.slots) _ _ same-formed (λ k e. refl) (λ e.
      or_fail_cong (λ k. 5) (λ k. 5) (lowest (repeated l w) 0 l.slots) (lowest (repeated l v) 0 l.slots) _ _ same-repeated (λ k e. refl) (λ e.
      or_fail_cong (λ s. fault_of (walk_of l w s)) (λ s. fault_of (walk_of l v s)) (lowest (broken l w) 0 l.slots) (lowest (broken l v) 0 l.slots) _ _ same-broken
      (λ s e. let r = at→ (broken l v) 0 l.slots s e in ap fault_of (same-walk s (omega (arith, r.1)))) (λ clean.
      or_fail_cong (λ k. 8) (λ k. 8) (lowest (sharing l w) 0 l.slots) (lowest (sharing l v) 0 l.slots) _ _ (same-sharing clean) (λ k e. refl) (λ e.
      or_fail_cong (λ k. 9) (λ k. 9) (lowest (stray l w) l.first (l.blocks - l.first)) (lowest (stray l v) l.first (l.blocks - l.first)) (Ok tt) (Ok tt) (same-stray clean) (λ k e. refl) (λ e. refl))))))

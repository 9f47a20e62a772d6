-- On a valid disk the free blocks, counted in the map, and the blocks that the files take make the data area.
-- The chains in slot order are one list without repeats, and a data block's map value is nonzero exactly if it is on that list. Assumes nothing.
use Rattle.std.specs.Prelude.{◌≡◌, Bool}
use Rattle.std.proofs.Math.Path.{refl}
use Rattle.std.proofs.Common.{sym, ◌∙◌, eqb-true, lt-ltb}
use Rattle.std.proofs.Math.Bool.{true, false, not}
use Prim.Native.Nat.{ℕ, ◌+◌, ◌-◌, ◌≤◌, ◌<◌}
use native.Mathlib.Omega.{arith}
use Rattle.std.proofs.Math.Dec.{eqb}
use Rattle.std.proofs.lemmas.Bool.{eqb-false}
use Rattle.std.proofs.Math.ListN.{length}
use Rattle.laws.specs.Scan.{count, total}
use Rattle.laws.specs.Lemmas.Scan.{count_cong, count_split, total_cong}
use Rattle.laws.specs.Member.{In, has}
use Rattle.laws.specs.Lemmas.Member.{in_has, out-has, count-has}
use Rattle.layout.specs.declared.Layout.{Layout}
use Rattle.layout.specs.Right.{LayoutRight}
use Rattle.blocks.specs.Blocks.{links_for}
use Rattle.map.specs.Map.{Data, free_count}
use Rattle.map.specs.Lemmas.Chains.{length-chain}
use Rattle.view.specs.Disk.{View, used, chain_of, owned, files_of, Valid, takes}
use Rattle.view.specs.Lemmas.Kept.{owned_data, owned-taken}
use Rattle.view.specs.Lemmas.Counting.{Sized, owned_by, by_owned, length-owned, owned_distinct, entry-size, length-content}

-- ---- a valid disk

module _ (l : Layout) (right : LayoutRight l) (v : View) (valid : Valid l v) where
  owned-test : (b : ℕ) → Data l b → not (eqb (v.map b) 0) ≡ has (owned v l.slots) b
  owned-test b d = go (eqb (v.map b) 0) refl
    where
      go : (t : Bool) → eqb (v.map b) 0 ≡ t → not (eqb (v.map b) 0) ≡ has (owned v l.slots) b
      go true e =
          rw e (sym (out-has (owned v l.slots) b (λ i.
          let y = owned_by v l.slots b i in owned-taken l right v valid y.0 b ((y.1, y.2), y.3) (eqb-true (v.map b) 0 e))))
      go false e =
          let o = valid.owner b d (eqb-false (v.map b) 0 e) in
          rw e (sym (in_has (owned v l.slots) b (by_owned v l.slots b o.0 o.1.0.0 o.1.0.1 o.1.1)))

  owned-count : free_count l v.map + length (owned v l.slots) ≡ l.blocks - l.first
  unfolding free_count
  owned-count =
      let n = l.blocks - l.first in
      let inside : (x : ℕ) → In x (owned v l.slots) → (l.first ≤ x) × (x < l.first + n) =
      λ x i. let y = owned_by v l.slots x i in let d = owned_data l right v valid y.0 x ((y.1, y.2), y.3) in (d.0, omega (arith, d.1, right.data_some)) in
      let a : count (has (owned v l.slots)) l.first n ≡ length (owned v l.slots) =
      count-has l.first n (owned v l.slots) (owned_distinct l right v valid l.slots (omega arith)) inside in
      let b : count (λ k. not (eqb (v.map k) 0)) l.first n ≡ count (has (owned v l.slots)) l.first n =
      count_cong (λ k. not (eqb (v.map k) 0)) (has (owned v l.slots)) l.first n (λ k p q. owned-test k (p, omega (arith, right.data_some))) in
      omega (arith, count_split (λ k. eqb (v.map k) 0) l.first n)

  module _ (sized : Sized l v) where
    slot_takes : (s : ℕ) → s < l.slots → (t : Bool) → used (v.entry s) ≡ t → length (chain_of v s) ≡ takes (files_of l v s)
    unfolding chain_of files_of
    slot_takes s h true e =
        rw (lt-ltb s l.slots h, e)
        (length-chain v.map (links_for (v.entry s).size) (v.entry s).start ∙ omega (arith, entry-size l right v valid sized s (h, e), length-content l right v valid sized s (h, e)))
    slot_takes s h false e = rw (lt-ltb s l.slots h, e) refl

    -- free blocks, counted in the map, and the blocks that the files take make the data area (demand 3)
    pub free_blocks_is : free_count l v.map + total (λ s. takes (files_of l v s)) 0 l.slots ≡ l.blocks - l.first
    free_blocks_is =
        let a = total_cong (λ s. length (chain_of v s)) (λ s. takes (files_of l v s)) 0 l.slots (λ s p q. slot_takes s (omega arith) (used (v.entry s)) refl) in
        omega (arith, owned-count, length-owned v l.slots)

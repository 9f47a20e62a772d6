-- On a valid disk the free blocks, counted in the map, and the blocks that the files take make the data area.
-- The chains in slot order are one list without repeats, and a data block's map value is nonzero exactly if it is on that list. Assumes nothing.
use Rattle.std.specs.Prelude.{◌≡◌, Bool, [], ◌++◌}
use Rattle.std.proofs.Math.Path.{refl}
use Rattle.std.proofs.Common.{ap, ◌∙◌, ⊎_elim, zero-add, length-append}
use Rattle.std.proofs.Math.Bool.{true, false}
use Prim.Native.Nat.{ℕ, zero, suc, ◌*◌, ◌≤◌, ◌<◌}
use Rattle.std.proofs.Math.Decide.{ℕ_discrete}
use native.Mathlib.Omega.{arith}
use Rattle.std.proofs.Math.ListN.{length, length-take}
use Rattle.laws.specs.Truth.{pick}
use Rattle.laws.specs.Scan.{total}
use Rattle.laws.specs.Lemmas.Scan.{total_snoc}
use Rattle.laws.specs.Member.{In, Distinct}
use Rattle.laws.specs.Lemmas.Member.{in_append, in_left, in_right, distinct_append}
use Rattle.layout.specs.declared.Layout.{Layout}
use Rattle.layout.specs.Right.{LayoutRight}
use Rattle.blocks.specs.Blocks.{links_for, read_blocks}
use Rattle.blocks.specs.Lemmas.Blocks.{length-read}
use Rattle.map.specs.Map.{Data}
use Rattle.map.specs.Lemmas.Chains.{length-chain, chain_distinct}
use Rattle.view.specs.Disk.{View, used, entry_chain, chain_of, owned, content_of, Used, Valid}
use Rattle.view.specs.Lemmas.Formed.{formed-parts}
use Rattle.view.specs.Lemmas.Kept.{owned_data}

-- Each data block has 1,024 bytes.
abbrev pub Sized : Layout → View → Type 0
Sized l v = (b : ℕ) → Data l b → length (v.block b) ≡ 1024

-- ---- all files' blocks

-- a block of a slot: the slot is used, and its chain has the block
pub slot_in : (v : View) (s b : ℕ) → In b (chain_of v s) → (used (v.entry s) ≡ true) × In b (entry_chain v.map (v.entry s))
unfolding chain_of
slot_in v s b h = go (used (v.entry s)) refl h
  where
    go : (t : Bool) → used (v.entry s) ≡ t → In b (pick t (entry_chain v.map (v.entry s)) []) → (used (v.entry s) ≡ true) × In b (entry_chain v.map (v.entry s))
    go true e i = (e, i)
    go false e i = absurd i

in_slot : (v : View) (s b : ℕ) → used (v.entry s) ≡ true → In b (entry_chain v.map (v.entry s)) → In b (chain_of v s)
unfolding chain_of
in_slot v s b u i = rw u i

-- an owned block is on a used slot's chain, and such a block is owned
pub owned_by : (v : View) (n b : ℕ) → In b (owned v n) → (t : ℕ) × (t < n) × (used (v.entry t) ≡ true) × In b (entry_chain v.map (v.entry t))
unfolding owned
owned_by v zero b h = absurd h
owned_by v (suc n) b h =
    ⊎_elim (λ i. let r = owned_by v n b i in (r.0, omega (arith, r.1), r.2, r.3))
    (λ i. let r = slot_in v n b i in (n, omega arith, r.0, r.1)) (in_append (owned v n) (chain_of v n) b h)

pub by_owned : (v : View) (n b t : ℕ) → t < n → used (v.entry t) ≡ true → In b (entry_chain v.map (v.entry t)) → In b (owned v n)
unfolding owned
by_owned v zero b t h u i = absurd (omega arith)
by_owned v (suc n) b t h u i = go (by_owned v n b t) (ℕ_discrete t n)
  where
    go : (t < n → used (v.entry t) ≡ true → In b (entry_chain v.map (v.entry t)) → In b (owned v n)) → Dec (t ≡ n) → In b (owned v n ++ chain_of v n)
    go ih (yes e) = in_right (owned v n) (chain_of v n) b (in_slot v n b (rw e at u) (rw e at i))
    go ih (no e) = in_left (owned v n) (chain_of v n) b (ih (omega arith) u i)

pub length-owned : (v : View) (n : ℕ) → length (owned v n) ≡ total (λ s. length (chain_of v s)) 0 n
unfolding owned
length-owned v zero = unfold total in refl
length-owned v (suc n) =
    length-append (owned v n) (chain_of v n)
    ∙ omega (arith, length-owned v n, total_snoc (λ s. length (chain_of v s)) 0 n, ap (λ (k : ℕ). length (chain_of v k)) (zero-add n))

-- ---- a valid disk

module _ (l : Layout) (right : LayoutRight l) (v : View) (valid : Valid l v) where
  slot_distinct : (s : ℕ) → s < l.slots → (t : Bool) → used (v.entry s) ≡ t → Distinct (chain_of v s)
  unfolding chain_of
  slot_distinct s h true e = rw e (chain_distinct l right v.map (links_for (v.entry s).size) (v.entry s).start (valid.linked s (h, e)))
  slot_distinct s h false e = rw e tt

  pub owned_distinct : (n : ℕ) → n ≤ l.slots → Distinct (owned v n)
  unfolding owned
  owned_distinct zero h = tt
  owned_distinct (suc n) h =
      distinct_append (owned v n) (chain_of v n) (owned_distinct n (omega arith)) (slot_distinct n h (used (v.entry n)) refl)
      (λ b j i.
      let x = slot_in v n b i in
      let y = owned_by v n b j in
      let e : n ≡ y.0 = valid.apart n y.0 b ((h, x.0), x.1) ((omega (arith, y.1), y.2), y.3) in
      omega (arith, y.1))

  module _ (sized : Sized l v) where
    pub entry-size : (s : ℕ) → Used l v s → 1 ≤ (v.entry s).size
    entry-size s u = (formed-parts l (v.entry s) (valid.legal s u)).size

    -- a file's content is as long as its entry says
    pub length-content : (s : ℕ) → Used l v s → length (content_of v (v.entry s)) ≡ (v.entry s).size
    unfolding content_of
    length-content s u =
        let bs = entry_chain v.map (v.entry s) in
        let a : length (read_blocks v.block bs) ≡ 1024 * length bs = length-read v.block bs (λ b i. sized b (owned_data l right v valid s b (u, i))) in
        let b : length bs ≡ suc (links_for (v.entry s).size) = unfold entry_chain in length-chain v.map (links_for (v.entry s).size) (v.entry s).start in
        length-take (v.entry s).size (read_blocks v.block bs) ∙ omega arith

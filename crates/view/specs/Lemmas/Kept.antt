-- A slot whose entry, map values and blocks are kept keeps its chain and its file; an owned block is a data block that isn't free.
-- Chain and content read only the map values and blocks of the chain. Assumes nothing.
use Rattle.std.specs.Prelude.{◌≡◌, Bool, true, false, ℕ, ◌≤◌, ◌<◌}
use Rattle.std.proofs.Math.Path.{refl}
use Rattle.std.proofs.Math.Option.{none}
use Rattle.std.proofs.Common.{lt-ltb, le-ltb}
use Rattle.laws.specs.Member.{In}
use Rattle.layout.specs.declared.Layout.{Layout}
use Rattle.layout.specs.Right.{LayoutRight}
use Rattle.blocks.specs.Blocks.{links_for}
use Rattle.blocks.specs.Lemmas.Blocks.{read_cong}
use Rattle.map.specs.Map.{Data, Chained}
use Rattle.map.specs.Lemmas.Chains.{chain_cong, chained_cong, chain_data, chain-taken}
use Rattle.view.specs.Disk.{View, used, entry_chain, content_of, file_of, files_of, Used, Owns, Valid}

-- the file of a slot, and of what is no slot
pub file_at_is : (l : Layout) (v : View) (t : ℕ) → t < l.slots → files_of l v t ≡ file_of l v (v.entry t)
unfolding files_of
file_at_is l v t h = rw (lt-ltb t l.slots h) refl

pub file-out : (l : Layout) (v : View) (t : ℕ) → l.slots ≤ t → files_of l v t ≡ none
unfolding files_of
file-out l v t h = rw (le-ltb t l.slots h) refl

module _ (l : Layout) (v w : View) where
  -- what slot t shows is the same in w
  pub record Kept (t : ℕ) : Type 0 where
    pub entry : w.entry t ≡ v.entry t
    pub map : (b : ℕ) → In b (entry_chain v.map (v.entry t)) → w.map b ≡ v.map b
    pub block : (b : ℕ) → In b (entry_chain v.map (v.entry t)) → w.block b ≡ v.block b

  pub kept_chain : (t : ℕ) → Kept t → entry_chain w.map (w.entry t) ≡ entry_chain v.map (v.entry t)
  unfolding entry_chain
  kept_chain t k = rw k.entry (chain_cong v.map w.map (links_for (v.entry t).size) (v.entry t).start k.map)

  pub kept_chained : (t : ℕ) → Kept t → Chained l v.map (links_for (v.entry t).size) (v.entry t).start → Chained l w.map (links_for (w.entry t).size) (w.entry t).start
  unfolding entry_chain
  kept_chained t k c = rw k.entry (chained_cong l v.map w.map (links_for (v.entry t).size) (v.entry t).start k.map c)

  kept_content : (t : ℕ) → Kept t → content_of w (w.entry t) ≡ content_of v (v.entry t)
  unfolding content_of
  kept_content t k =
      rw (kept_chain t k, k.entry, read_cong v.block w.block (entry_chain v.map (v.entry t)) k.block) refl

  pub kept_file_is : (t : ℕ) → Kept t → file_of l w (w.entry t) ≡ file_of l v (v.entry t)
  unfolding file_of
  kept_file_is t k = rw (kept_content t k, k.entry) refl

  pub kept_empty : (t : ℕ) → w.entry t ≡ v.entry t → used (v.entry t) ≡ false → file_of l w (w.entry t) ≡ file_of l v (v.entry t)
  unfolding file_of
  kept_empty t e u = rw (e, u) refl

  -- a slot whose entry is kept, and its chain if it is used, keeps its file
  pub file_kept : (t : ℕ) → w.entry t ≡ v.entry t → (used (v.entry t) ≡ true → Kept t) → file_of l w (w.entry t) ≡ file_of l v (v.entry t)
  file_kept t e keep = go (used (v.entry t)) refl
    where
      go : (u : Bool) → used (v.entry t) ≡ u → file_of l w (w.entry t) ≡ file_of l v (v.entry t)
      go true p = kept_file_is t (keep p)
      go false p = kept_empty t e p

  -- back from w to v
  pub used_back : (t : ℕ) → w.entry t ≡ v.entry t → Used l w t → Used l v t
  used_back t e u = (u.0, rw e at u.1)

  pub owns_back : (t b : ℕ) → Kept t → Owns l w t b → Owns l v t b
  owns_back t b k o = (used_back t k.entry o.0, rw (kept_chain t k) at o.1)

  pub owns_on : (t b : ℕ) → Kept t → Owns l v t b → Owns l w t b
  owns_on t b k o = ((o.0.0, rw k.entry o.0.1), rw (kept_chain t k) o.1)

module _ (l : Layout) (right : LayoutRight l) (v : View) (valid : Valid l v) where
  pub owned_data : (s b : ℕ) → Owns l v s b → Data l b
  unfolding entry_chain
  owned_data s b o = chain_data l right v.map _ _ b (valid.linked s o.0) o.1

  pub owned-taken : (s b : ℕ) → Owns l v s b → v.map b ≡ 0 → ⊥
  unfolding entry_chain
  owned-taken s b o = chain-taken l right v.map _ _ b (valid.linked s o.0) o.1

-- An entry written to an empty slot, with its content in free blocks: the disk stays valid, that slot's file is new, and every other stays.
-- Chains of files have no free block, so none has a block that is written; the new blocks read back as the new chain. Assumes nothing.
use Rattle.std.specs.Prelude.{◌≡◌, true, false, List, [], ◌∷◌, ℕ, suc, ◌<◌, length, take}
use Rattle.std.proofs.Math.Path.{refl}
use Rattle.std.proofs.Common.{arith}
use Rattle.std.proofs.Math.Option.{some}
use Rattle.laws.specs.Member.{In}
use Rattle.layout.specs.declared.Layout.{Layout}
use Rattle.layout.specs.Right.{LayoutRight}
use Rattle.blocks.specs.Blocks.{links_for, read_blocks}
use Rattle.names.specs.Names.{name_of}
use Rattle.map.specs.Map.{Data, first_or}
use Rattle.map.specs.Lemmas.Chains.{Linked, linked_chain}
use Rattle.view.specs.Disk.{Entry, View, used, formed, entry_chain, content_of, file_of, Namesakes, Used, Owns, Valid}
use Rattle.view.specs.Lemmas.Formed.{formed-used}
use Rattle.view.specs.Lemmas.Kept.{Kept, file_kept, owned_data, owned-taken}

-- an entry, blocks and content that may be put into slot s
pub record Fresh (l : Layout) (v : View) (s : ℕ) (e : Entry) (bs content : List ℕ) : Type 0 where
  pub slot : s < l.slots
  pub empty : used (v.entry s) ≡ false
  pub form : formed l e ≡ true
  pub new : (t : ℕ) → Used l v t → Namesakes (v.entry t) e → ⊥
  pub size : e.size ≡ length content
  pub enough : length bs ≡ suc (links_for e.size)
  pub start : e.start ≡ first_or bs 0
  pub inside : (b : ℕ) → In b bs → Data l b
  pub free : (b : ℕ) → In b bs → v.map b ≡ 0

-- w is v with these put
pub record Stored (l : Layout) (v : View) (s : ℕ) (e : Entry) (bs content : List ℕ) (w : View) : Type 0 where
  pub made : w.entry s ≡ e
  pub kept : (t : ℕ) → t < l.slots → (t ≡ s → ⊥) → w.entry t ≡ v.entry t
  pub linked : Linked w.map bs l.mark
  pub other : (b : ℕ) → b < l.blocks → (In b bs → ⊥) → w.map b ≡ v.map b
  pub block : (b : ℕ) → Data l b → (In b bs → ⊥) → w.block b ≡ v.block b
  pub bytes : take (length content) (read_blocks w.block bs) ≡ content

new-chain : (m : ℕ → ℕ) (e : Entry) (bs : List ℕ) (mark : ℕ) → length bs ≡ suc (links_for e.size) → e.start ≡ first_or bs 0 → Linked m bs mark → entry_chain m e ≡ bs
unfolding entry_chain first_or
new-chain m e [] mark n f h = absurd (omega arith)
new-chain m e (b ∷ bs) mark n f h =
    let k : links_for e.size ≡ length bs = omega arith in
    rw (k, f) (linked_chain m b bs mark h)

module _ (l : Layout) (right : LayoutRight l) (v w : View) (s : ℕ) (e : Entry) (bs content : List ℕ) (valid : Valid l v) (fresh : Fresh l v s e bs content)
    (stored : Stored l v s e bs content w) where
  -- a used block is none of bs
  pub apart_free : (t b : ℕ) → Owns l v t b → In b bs → ⊥
  apart_free t b o i = owned-taken l right v valid t b o (fresh.free b i)

  pub keep : (t : ℕ) → Used l v t → (t ≡ s → ⊥) → Kept l v w t
  keep t u n = record {
    entry = stored.kept t u.0 n;
    map = λ b i. stored.other b (owned_data l right v valid t b (u, i)).1 (apart_free t b (u, i));
    block = λ b i. stored.block b (owned_data l right v valid t b (u, i)) (apart_free t b (u, i));
  }

  pub mine : entry_chain w.map e ≡ bs
  mine = new-chain w.map e bs l.mark fresh.enough fresh.start stored.linked

  new-content : content_of w e ≡ content
  unfolding content_of
  new-content = rw (mine, fresh.size) stored.bytes

  pub put_here : file_of l w (w.entry s) ≡ some (record { name = name_of l e.area; type = e.type; content = content })
  unfolding file_of
  put_here = rw (stored.made, formed-used l e right fresh.form, new-content) refl

  pub put_others : (t : ℕ) → t < l.slots → (t ≡ s → ⊥) → file_of l w (w.entry t) ≡ file_of l v (v.entry t)
  put_others t h n = file_kept l v w t (stored.kept t h n) (λ u. keep t (h, u) n)

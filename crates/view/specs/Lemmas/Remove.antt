-- A slot cleared and its blocks freed: the disk stays valid, that slot's file goes, and every other stays.
-- Other chains have none of the freed blocks, since no block is on two chains. Assumes nothing.
use Rattle.std.specs.Prelude.{◌≡◌, false, ℕ, ◌<◌}
use Rattle.std.proofs.Math.Path.{refl}
use Rattle.std.proofs.Math.Option.{none}
use Rattle.laws.specs.Member.{In}
use Rattle.layout.specs.declared.Layout.{Layout}
use Rattle.layout.specs.Right.{LayoutRight}
use Rattle.map.specs.Map.{Data}
use Rattle.view.specs.Disk.{View, used, entry_chain, file_of, Used, Valid}
use Rattle.view.specs.Lemmas.Kept.{Kept, file_kept, owned_data}

-- w is v with slot s cleared and its blocks freed
pub record Removed (l : Layout) (v : View) (s : ℕ) (w : View) : Type 0 where
  pub gone : (w.entry s).type ≡ 0
  pub kept : (t : ℕ) → t < l.slots → (t ≡ s → ⊥) → w.entry t ≡ v.entry t
  pub freed : (b : ℕ) → In b (entry_chain v.map (v.entry s)) → w.map b ≡ 0
  pub other : (b : ℕ) → b < l.blocks → (In b (entry_chain v.map (v.entry s)) → ⊥) → w.map b ≡ v.map b
  pub block : (b : ℕ) → Data l b → w.block b ≡ v.block b

module _ (l : Layout) (right : LayoutRight l) (v w : View) (s : ℕ) (valid : Valid l v) (here : Used l v s) (r : Removed l v s w) where
  pub empty : used (w.entry s) ≡ false
  unfolding used
  empty = rw r.gone refl

  pub keep : (t : ℕ) → Used l v t → (t ≡ s → ⊥) → Kept l v w t
  keep t u n = record {
    entry = r.kept t u.0 n;
    map = λ b i. r.other b (owned_data l right v valid t b (u, i)).1 (λ j. n (valid.apart t s b (u, i) (here, j)));
    block = λ b i. r.block b (owned_data l right v valid t b (u, i));
  }

  pub remove_gone : file_of l w (w.entry s) ≡ none
  unfolding file_of
  remove_gone = rw empty refl

  pub remove_others : (t : ℕ) → t < l.slots → (t ≡ s → ⊥) → file_of l w (w.entry t) ≡ file_of l v (v.entry t)
  remove_others t h n = file_kept l v w t (r.kept t h n) (λ u. keep t (h, u) n)

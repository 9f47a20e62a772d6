-- A slot cleared and its blocks freed: the disk stays valid, that slot's file goes, and every other stays.
-- Other chains have none of the freed blocks, since no block is on two chains. Assumes nothing.
use Rattle.std.specs.Prelude.{◌≡◌, ℕ, ◌<◌}
use Rattle.std.proofs.Common.{◌∙◌, subst, arith}
use Rattle.laws.specs.Lemmas.Truth.{clash}
use Rattle.laws.specs.Member.{In}
use Rattle.layout.specs.declared.Layout.{Layout}
use Rattle.layout.specs.Right.{LayoutRight}
use Rattle.map.specs.Map.{Data}
use Rattle.view.specs.Disk.{View, entry_chain, Used, Owns, Valid}
use Rattle.view.specs.Lemmas.Namesakes.{namesakes_kept}
use Rattle.view.specs.Lemmas.Kept.{Kept, kept_chained, used_back, owns_back, owns_on, owned_data}
use Rattle.view.specs.Lemmas.Remove.{Removed, empty, keep}

module _ (l : Layout) (right : LayoutRight l) (v w : View) (s : ℕ) (valid : Valid l v) (here : Used l v s) (r : Removed l v s w) where
  -- a used slot of w is another, and was used
  other_slot : (t : ℕ) → Used l w t → t ≡ s → ⊥
  other_slot t u e = clash (rw e at u.1) (empty l right v w s valid here r)

  was : (t : ℕ) → Used l w t → Used l v t
  was t u = used_back l v w t (r.kept t u.0 (other_slot t u)) u

  kept_of : (t : ℕ) → Used l w t → Kept l v w t
  kept_of t u = keep l right v w s valid here r t (was t u) (other_slot t u)

  was_owned : (t b : ℕ) → Owns l w t b → Owns l v t b
  was_owned t b o = owns_back l v w t b (kept_of t o.0) o

  system : (k : ℕ) → k < l.system → w.map k ≡ l.reserved
  system k h =
      let low : k < l.first = omega (arith, right.system_low) in
      r.other k (omega (arith, right.data_some)) (λ i. let d = owned_data l right v valid s k (here, i) in omega (arith, d.0)) ∙ valid.system k h

  owner_of : (b : ℕ) → Data l b → (w.map b ≡ 0 → ⊥) → (t : ℕ) × Owns l w t b
  owner_of b d n =
      let off : In b (entry_chain v.map (v.entry s)) → ⊥ = λ i. n (r.freed b i) in
      let o = valid.owner b d (λ e. n (r.other b d.1 off ∙ e)) in
      let ne : o.0 ≡ s → ⊥ = λ e. off (subst (λ (t : ℕ). In b (entry_chain v.map (v.entry t))) e o.1.1) in
      (o.0, owns_on l v w o.0 b (keep l right v w s valid here r o.0 o.1.0 ne) o.1)

  pub remove_valid : Valid l w
  remove_valid = record {
    system = system;
    legal = λ t u. rw (kept_of t u).entry (valid.legal t (was t u));
    single = λ t q u x e.
        valid.single t q (was t u) (was q x) (namesakes_kept (kept_of t u).entry (kept_of q x).entry e);
    linked = λ t u. kept_chained l v w t (kept_of t u) (valid.linked t (was t u));
    apart = λ t q b o p. valid.apart t q b (was_owned t b o) (was_owned q b p);
    owner = owner_of;
  }

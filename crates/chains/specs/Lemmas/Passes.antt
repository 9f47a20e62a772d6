-- Refusals 6 to 9 in the steps in which the code takes them: the pass over all chains, then what they share, then what is on none.
-- A refusal or the next step, by what a pass found. Assumes nothing.
use Rattle.std.specs.Prelude.{◌≡◌, ℕ, ◌-◌, Ok, None, Some, Err}
use Rattle.std.proofs.Math.Path.{refl}
use Rattle.std.proofs.Common.{sym, ap, ◌∙◌, arith}
use Rattle.laws.specs.Scan.{lowest, Lowest}
use Rattle.laws.specs.declared.Refusal.{Refusal}
use Rattle.laws.specs.Refusals.{refusal_at}
use Rattle.layout.specs.declared.Layout.{Layout}
use Rattle.map.specs.Map.{fault_of}
use Rattle.view.specs.Disk.{View}
use Rattle.view.specs.Rules.{walk_of, broken, sharing, stray, or_fail, Ruled}
use Rattle.chains.specs.Passes.{chain_rules, or_free}

-- ---- the steps, r being what the pass over the chains found and n the number of free blocks

fault_stop : (f : ℕ → ℕ) (x : Lowest) (next : Ruled) (n : ℕ) {r : Ruled} {w : Refusal} → r ≡ or_fail f x (Ok tt) → r ≡ Err w → Err w ≡ or_free (or_fail f x next) n
fault_stop f (Some k) next n e t = ap (λ z. or_free z n) (sym t ∙ e)
fault_stop f None next n e t = absurd (let z : ◌≡◌ {A = ℕ} 0 1 = cc in omega arith)

fault_none : (f : ℕ → ℕ) (w : Lowest) {r : Ruled} → r ≡ or_fail f w (Ok tt) → r ≡ Ok tt → w ≡ None
fault_none f (Some k) e t = absurd (let z : ◌≡◌ {A = ℕ} 0 1 = cc in omega arith)
fault_none f None e t = refl

module _ (l : Layout) (v : View) where
  abbrev Chains : Ruled → Type 0
  Chains r = r ≡ or_fail (λ s. fault_of (walk_of l v s)) (lowest (broken l v) 0 l.slots) (Ok tt)

  pub chain_faulty : (n : ℕ) {r : Ruled} {w : Refusal} → Chains r → r ≡ Err w → Err w ≡ or_free (chain_rules l v) n
  unfolding chain_rules
  chain_faulty n e t = fault_stop (λ s. fault_of (walk_of l v s)) (lowest (broken l v) 0 l.slots) _ n e t

  pub chain_clean : {r : Ruled} → Chains r → r ≡ Ok tt → lowest (broken l v) 0 l.slots ≡ None
  chain_clean e t = fault_none (λ s. fault_of (walk_of l v s)) (lowest (broken l v) 0 l.slots) e t

  module _ (n : ℕ) (clean : lowest (broken l v) 0 l.slots ≡ None) {shared : Lowest} (claims : shared ≡ lowest (sharing l v) 0 l.slots) where
    pub chain_shared : {s : ℕ} → shared ≡ Some s → Err (refusal_at 8 s) ≡ or_free (chain_rules l v) n
    unfolding chain_rules
    chain_shared t = rw (clean, ← claims, t) refl

    module _ (apart : shared ≡ None) {found : Lowest} (strays : found ≡ lowest (stray l v) l.first (l.blocks - l.first)) where
      pub chain-stray : {b : ℕ} → found ≡ Some b → Err (refusal_at 9 b) ≡ or_free (chain_rules l v) n
      unfolding chain_rules
      chain-stray t = rw (clean, ← claims, apart, ← strays, t) refl

      pub chain_pass : {free : ℕ} → found ≡ None → free ≡ n → Ok free ≡ or_free (chain_rules l v) n
      unfolding chain_rules
      chain_pass t e = rw (clean, ← claims, apart, ← strays, t, e) refl

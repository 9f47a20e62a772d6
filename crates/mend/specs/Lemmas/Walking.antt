-- What is said of a chain, turn by turn of the loop that walks it: the block in hand decides, or the rest of the chain does.
-- By the walk's two tests at that block. Assumes nothing.
use Rattle.std.specs.Prelude.{◌≡◌, Bool, List, get_or, ◌||◌}
use Rattle.std.proofs.Math.Path.{refl}
use Rattle.std.proofs.Common.{sym, ap, ◌∙◌}
use Rattle.std.proofs.Math.Bool.{true, false}
use Prim.Native.Nat.{ℕ, zero, suc, ◌-◌}
use native.Mathlib.Omega.{arith}
use borrow.Author.Tests.{eq-eqb, ne_eqb}
use Rattle.laws.specs.Truth.{pick}
use Rattle.layout.specs.declared.Layout.{Layout}
use Rattle.map.specs.Map.{is_link, Walk, Whole, Bad, Cut, walk, is_whole, fault_of, chain, touched}
use Rattle.mend.specs.Steps.{chain_said}

module _ (l : Layout) (m : ℕ → ℕ) (marks : List Bool) (shared : Bool) (block : ℕ) where
  -- the block is no data block
  pub said_astray : (left : ℕ) → is_link l block ≡ false → chain_said l m marks shared left block ≡ 6
  unfolding chain_said
  said_astray zero e = rw e refl
  said_astray (suc n) e = rw e refl

  module _ (link : is_link l block ≡ true) {value : ℕ} (read : value ≡ m block) where
    -- the last block
    pub said_cut : (left : ℕ) → left ≡ 0 → (value ≡ l.mark → ⊥) → chain_said l m marks shared left block ≡ 7
    unfolding chain_said
    said_cut left z n = rw (z, link, ne_eqb (m block) l.mark (λ e. n (read ∙ e))) refl

    -- the end mark before it
    pub said_early : (left : ℕ) → (left ≡ 0 → ⊥) → value ≡ l.mark → chain_said l m marks shared left block ≡ 7
    unfolding chain_said
    said_early zero n e = absurd (n refl)
    said_early (suc k) n e = rw (link, eq-eqb (m block) l.mark (sym read ∙ e)) refl

    one_more : (s t rest : Bool) → pick s true (pick t true rest) ≡ pick (s || t) true rest
    one_more true t rest = refl
    one_more false t rest = refl

    -- the end mark in the last block
    pub said_last : (left : ℕ) → left ≡ 0 → value ≡ l.mark → chain_said l m marks shared left block ≡ pick (shared || get_or marks block false) 8 1
    unfolding chain_said
    said_last left z e =
        rw (z, link, eq-eqb (m block) l.mark (sym read ∙ e)) (ap (λ (t : Bool). pick t 8 1) (one_more shared (get_or marks block false) false ∙ last (shared || get_or marks block false)))
      where
        last : (t : Bool) → pick t true false ≡ t
        last true = refl
        last false = refl

    -- another block before it
    pub said_on : (left : ℕ) → (left ≡ 0 → ⊥) → (value ≡ l.mark → ⊥) → chain_said l m marks shared left block ≡ chain_said l m marks (shared || get_or marks block false) (left - 1) value
    unfolding chain_said
    said_on zero n k = absurd (n refl)
    said_on (suc r) n k =
        let z : suc r - 1 ≡ r = omega arith in
        rw (z, link, ne_eqb (m block) l.mark (λ e. k (read ∙ e)), read)
        (ap (λ (t : Bool). pick (is_whole (walk l m r (m block))) (pick t 8 1) (fault_of (walk l m r (m block)))) (one_more shared (get_or marks block false) (touched marks (chain m r (m block)))))

-- a chain of which 1 is said is faultless
pub said_one : (l : Layout) (m : ℕ → ℕ) (marks : List Bool) (shared : Bool) (links block : ℕ) → chain_said l m marks shared links block ≡ 1 → walk l m links block ≡ Whole
unfolding chain_said
said_one l m marks shared links block = go (walk l m links block)
  where
    go : (w : Walk) → pick (is_whole w) (pick (pick shared true (touched marks (chain m links block))) 8 1) (fault_of w) ≡ 1 → w ≡ Whole
    go Whole e = refl
    go Bad e = absurd (omega arith)
    go Cut e = absurd (omega arith)

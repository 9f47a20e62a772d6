-- Marks are membership in the list of the blocks that were marked: a chain touches the marks exactly where it meets the list.
-- One relation, kept by each block marked. Assumes nothing.
use Rattle.std.specs.Prelude.{◌≡◌, refl, Bool, true, false, List, [], ◌∷◌, ◌++◌, length, drop, get_or, set, replicate}
use Rattle.std.proofs.Common.{sym, ap, ◌∙◌, append-nil, inl, inr, ⊎_elim, add-one, sub-one, arith, length-set, drop_of_length-le, drop-cons, get_or-set_same, get_or-set_other}
use Prim.Native.Nat.{ℕ, zero, suc, ◌+◌, ◌-◌, ◌≤◌, ◌<◌}
use Rattle.std.proofs.Math.Decide.{ℕ_discrete}
use Rattle.std.proofs.lemmas.List.{length-replicate}
use Rattle.std.proofs.Math.Seq.{append_snoc}
use Rattle.laws.specs.Lemmas.Truth.{same_truth}
use Rattle.laws.specs.Lists.{meets}
use Rattle.laws.specs.Member.{In, has}
use Rattle.laws.specs.Lemmas.Member.{has_in, in_has, in_append, in_left, in_right}
use Rattle.map.specs.Map.{chain, touched, marked, Marks}

unmarked : (n b : ℕ) → get_or (replicate n false) b false ≡ false
unmarked zero b = refl
unmarked (suc n) zero = refl
unmarked (suc n) (suc b) = unmarked n b

pub marks_none : (n : ℕ) → Marks n (replicate n false) []
unfolding has
marks_none n = record { size = length-replicate n false; mark = λ b h. unmarked n b }

has_snoc : (xs : List ℕ) (b x : ℕ) → (x ≡ b → ⊥) → has (xs ++ (b ∷ [])) x ≡ has xs x
has_snoc xs b x n =
    same_truth (has (xs ++ (b ∷ [])) x) (has xs x)
    (λ e. in_has xs x (⊎_elim (λ p. p) (λ q. absurd (⊎_elim n (λ f. f) q)) (in_append xs (b ∷ []) x (has_in (xs ++ (b ∷ [])) x e))))
    (λ e. in_has (xs ++ (b ∷ [])) x (in_left xs (b ∷ []) x (has_in xs x e)))

-- one block more
marks_one : (n : ℕ) (ms : List Bool) (xs : List ℕ) (b : ℕ) → b < n → Marks n ms xs → Marks n (set ms b true) (xs ++ (b ∷ []))
marks_one n ms xs b h m = record { size = length-set ms b true ∙ m.size; mark = λ x p. go x p (ℕ_discrete x b) }
  where
    go : (x : ℕ) → x < n → Dec (x ≡ b) → get_or (set ms b true) x false ≡ has (xs ++ (b ∷ [])) x
    go x p (yes e) =
        ap (λ (y : ℕ). get_or (set ms b true) y false) e
        ∙ get_or-set_same ms b true false (omega (arith, m.size))
        ∙ sym (in_has (xs ++ (b ∷ [])) x (in_right xs (b ∷ []) x (inl e)))
    go x p (no e) = get_or-set_other ms b x true false e ∙ m.mark x p ∙ sym (has_snoc xs b x e)

-- more blocks
pub marks_more : (n : ℕ) (bs : List ℕ) (ms : List Bool) (xs : List ℕ) → ((b : ℕ) → In b bs → b < n) → Marks n ms xs → Marks n (marked ms bs) (xs ++ bs)
unfolding marked
marks_more n [] ms xs h m = rw (append-nil xs) m
marks_more n (b ∷ bs) ms xs h m =
    rw (append_snoc xs b bs) at (marks_more n bs (set ms b true) (xs ++ (b ∷ [])) (λ x i. h x (inr i)) (marks_one n ms xs b (h b (inl refl)) m))

-- what remains of the blocks from index k on
pub marked_end : (ms : List Bool) (bs : List ℕ) (k : ℕ) → length bs ≤ k → marked ms (drop k bs) ≡ ms
unfolding marked
marked_end ms bs k h = rw (drop_of_length-le bs h)

pub marked_next : (ms : List Bool) (bs : List ℕ) (k : ℕ) → k < length bs → marked ms (drop k bs) ≡ marked (set ms (get_or bs k 0) true) (drop (k + 1) bs)
unfolding marked
marked_next ms bs k h = rw (drop-cons bs k 0 h, add-one)

-- a chain touches the marks where it meets the blocks
pub touched-meets : (n : ℕ) (ms : List Bool) (xs bs : List ℕ) → ((b : ℕ) → In b bs → b < n) → Marks n ms xs → touched ms bs ≡ meets xs bs
unfolding touched meets
touched-meets n ms xs [] h m = refl
touched-meets n ms xs (b ∷ bs) h m = rw (m.mark b (h b (inl refl)), touched-meets n ms xs bs (λ x i. h x (inr i)) m) refl

-- ---- loops along a chain, v being the map value of b

module _ (m : ℕ → ℕ) where
  pub chain_last : (k b : ℕ) → k ≡ 0 → chain m k b ≡ b ∷ []
  unfolding chain
  chain_last k b h = rw h

  pub chain_next : (k b v : ℕ) → v ≡ m b → (k ≡ 0 → ⊥) → chain m k b ≡ b ∷ chain m (k - 1) v
  unfolding chain
  chain_next zero b v w h = absurd (h refl)
  chain_next (suc k) b v w h = rw (w, sub-one)

  -- the same with the links counted upwards
  pub chain-turn : (k j b v : ℕ) → v ≡ m b → j < k → chain m (k - j) b ≡ b ∷ chain m (k - (j + 1)) v
  chain-turn k j b v w h = let z : k - (j + 1) ≡ k - j - 1 = omega arith in rw z (chain_next (k - j) b v w (λ e. omega arith))

  module _ (ms : List Bool) where
    pub mark_last : (k b : ℕ) → k ≡ 0 → marked ms (chain m k b) ≡ set ms b true
    unfolding marked
    mark_last k b h = rw (chain_last k b h)

    pub mark_next : (k b v : ℕ) → v ≡ m b → (k ≡ 0 → ⊥) → marked ms (chain m k b) ≡ marked (set ms b true) (chain m (k - 1) v)
    unfolding marked
    mark_next k b v w h = rw (chain_next k b v w h)

    pub touch_first : (k b : ℕ) → get_or ms b false ≡ true → touched ms (chain m k b) ≡ true
    unfolding chain touched
    touch_first zero b t = rw t
    touch_first (suc k) b t = rw t

    pub touch_last : (k b : ℕ) → get_or ms b false ≡ false → k ≡ 0 → touched ms (chain m k b) ≡ false
    unfolding touched
    touch_last k b t h = rw (chain_last k b h, t)

    pub touch_next : (k b v : ℕ) → v ≡ m b → get_or ms b false ≡ false → (k ≡ 0 → ⊥) → touched ms (chain m k b) ≡ touched ms (chain m (k - 1) v)
    unfolding touched
    touch_next k b v w t h = rw (chain_next k b v w h, t)

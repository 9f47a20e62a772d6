-- A faultless chain has no block twice and no free block, lies in the data area, and stays where the map keeps its values there.
-- A block's distance from its chain's end is fixed by the map, so no block stands at two. Assumes nothing.
use Rattle.std.specs.Prelude.{◌≡◌, List, [], ◌∷◌, length, get_or}
use Rattle.std.proofs.Math.Path.{refl, ap}
use Rattle.std.proofs.Common.{◌∙◌, inl, inr, suc-add}
use Prim.Native.Nat.{ℕ, zero, suc, ◌+◌, ◌-◌, ◌≤◌, ◌<◌}
use native.Mathlib.Omega.{arith}
use Rattle.laws.specs.Lemmas.Scan.{count_split}
use Rattle.laws.specs.Member.{In, Distinct, has}
use Rattle.laws.specs.Lemmas.Member.{count-has}
use Rattle.layout.specs.declared.Layout.{Layout}
use Rattle.layout.specs.Right.{LayoutRight}
use Rattle.map.specs.Map.{chain, Data, Chained, first_or}

pub length-chain : (m : ℕ → ℕ) (k b : ℕ) → length (chain m k b) ≡ suc k
unfolding chain
length-chain m zero b = refl
length-chain m (suc k) b = ap suc (length-chain m k (m b))

pub chained_first : (l : Layout) (m : ℕ → ℕ) (k b : ℕ) → Chained l m k b → Data l b
unfolding Chained
chained_first l m zero b c = c.0
chained_first l m (suc k) b c = c.0

module _ (l : Layout) (right : LayoutRight l) (m : ℕ → ℕ) where
  -- a block stands at one distance from its chain's end
  same_left : (j k b : ℕ) → Chained l m j b → Chained l m k b → j ≡ k
  unfolding Chained
  same_left zero zero b x y = refl
  same_left zero (suc k) b x y = let d = chained_first l m k (m b) y.1 in absurd (omega (arith, x.1, d.1, right.mark_out))
  same_left (suc j) zero b x y = let d = chained_first l m j (m b) x.1 in absurd (omega (arith, y.1, d.1, right.mark_out))
  same_left (suc j) (suc k) b x y = ap suc (same_left j k (m b) x.1 y.1)

  -- from a block on it the chain goes on
  left : (k b x : ℕ) → Chained l m k b → In x (chain m k b) → (j : ℕ) × (j ≤ k) × Chained l m j x
  unfolding chain Chained
  left zero b x c (inl e) = (0, omega arith, rw e c)
  left zero b x c (inr h) = absurd h
  left (suc k) b x c (inl e) = (suc k, omega arith, rw e c)
  left (suc k) b x c (inr h) = let r = left k (m b) x c.1 h in (r.0, omega (arith, r.1), r.2)

  pub chain_data : (k b x : ℕ) → Chained l m k b → In x (chain m k b) → Data l x
  chain_data k b x c h = let r = left k b x c h in chained_first l m r.0 x r.2

  taken : (j x : ℕ) → Chained l m j x → m x ≡ 0 → ⊥
  unfolding Chained
  taken zero x c e = omega (arith, c.1, right.mark_out, right.data_first, right.data_some)
  taken (suc j) x c e = let d = chained_first l m j (m x) c.1 in omega (arith, d.0, right.data_first)

  -- its blocks aren't free
  pub chain-taken : (k b x : ℕ) → Chained l m k b → In x (chain m k b) → m x ≡ 0 → ⊥
  chain-taken k b x c h = let r = left k b x c h in taken r.0 x r.2

  -- none comes twice
  pub chain_distinct : (k b : ℕ) → Chained l m k b → Distinct (chain m k b)
  unfolding chain Chained
  chain_distinct zero b c = (λ h. h, tt)
  chain_distinct (suc k) b c =
      (λ h. let r = left k (m b) b c.1 h in let e : r.0 ≡ suc k = same_left r.0 (suc k) b r.2 c in omega (arith, r.1), chain_distinct k (m b) c.1)

  -- so it is no longer than the data area
  pub chain_short : (k b : ℕ) → Chained l m k b → suc k ≤ l.blocks - l.first
  chain_short k b c =
      let n = l.blocks - l.first in
      let inside : (x : ℕ) → In x (chain m k b) → (l.first ≤ x) × (x < l.first + n) = λ x i. let d = chain_data k b x c i in (d.0, omega (arith, d.1, right.data_some)) in
      omega (
        arith,
        count-has l.first n (chain m k b) (chain_distinct k b c) inside,
        length-chain m k b,
        count_split (has (chain m k b)) l.first n,
      )

-- ---- the n-th block of a chain

pub nth_first : (m : ℕ → ℕ) (k b : ℕ) → b ≡ get_or (chain m k b) 0 0
unfolding chain
nth_first m zero b = refl
nth_first m (suc k) b = refl

nth_inside : (l : Layout) (m : ℕ → ℕ) (k b n : ℕ) → Chained l m k b → n ≤ k → Data l (get_or (chain m k b) n 0)
unfolding chain Chained
nth_inside l m zero b zero c h = c.0
nth_inside l m zero b (suc n) c h = absurd (omega arith)
nth_inside l m (suc k) b zero c h = c.0
nth_inside l m (suc k) b (suc n) c h = nth_inside l m k (m b) n c.1 (omega arith)

pub nth_data : (l : Layout) (m : ℕ → ℕ) (k b n : ℕ) {x : ℕ} → Chained l m k b → n ≤ k → x ≡ get_or (chain m k b) n 0 → Data l x
nth_data l m k b n c h e = rw e (nth_inside l m k b n c h)

nth_after : (m : ℕ → ℕ) (k b n : ℕ) → n < k → m (get_or (chain m k b) n 0) ≡ get_or (chain m k b) (suc n) 0
unfolding chain
nth_after m zero b n h = absurd (omega arith)
nth_after m (suc k) b zero h = nth_first m k (m b)
nth_after m (suc k) b (suc n) h = nth_after m k (m b) n (omega arith)

-- the next one, at index j
pub nth_next : (m : ℕ → ℕ) (k b n : ℕ) {x v j : ℕ} → x ≡ get_or (chain m k b) n 0 → v ≡ m x → n < k → j ≡ n + 1 → v ≡ get_or (chain m k b) j 0
nth_next m k b n e w h p = w ∙ ap m e ∙ nth_after m k b n h ∙ ap (λ (i : ℕ). get_or (chain m k b) i 0) (omega arith)

-- ---- a chain from its j-th block x on, with `left` links

chained_on : (l : Layout) (m : ℕ → ℕ) (k b j left : ℕ) → left + j ≡ k → Chained l m k b → Chained l m left (get_or (chain m k b) j 0)
unfolding chain Chained
chained_on l m k b zero left e c = let p : left ≡ k = omega arith in rw (p, ← nth_first m k b) c
chained_on l m zero b (suc j) left e c = absurd (omega arith)
chained_on l m (suc k) b (suc j) left e c = chained_on l m k (m b) j left (omega arith) c.1

pub chained_from : (l : Layout) (m : ℕ → ℕ) (k b j left : ℕ) {x : ℕ} → x ≡ get_or (chain m k b) j 0 → left + j ≡ k → Chained l m k b → Chained l m left x
chained_from l m k b j left e p c = rw e (chained_on l m k b j left p c)

nth_on : (m : ℕ → ℕ) (k b j left i : ℕ) → left + j ≡ k → get_or (chain m left (get_or (chain m k b) j 0)) i 0 ≡ get_or (chain m k b) (j + i) 0
unfolding chain
nth_on m k b zero left i e = let p : left ≡ k = omega arith in let q : 0 + i ≡ i = omega arith in rw (p, q, ← nth_first m k b) refl
nth_on m zero b (suc j) left i e = absurd (omega arith)
nth_on m (suc k) b (suc j) left i e = rw (suc-add j i) (nth_on m k (m b) j left i (omega arith))

-- its i-th block, at index n of the whole
pub nth_from : (m : ℕ → ℕ) (k b j left i : ℕ) {x v n : ℕ} → x ≡ get_or (chain m k b) j 0 → left + j ≡ k → v ≡ get_or (chain m left x) i 0 → n ≡ j + i → v ≡ get_or (chain m k b) n 0
nth_from m k b j left i e p w q = w ∙ rw (e, q) (nth_on m k b j left i p)

-- ---- maps that agree on a chain

pub chain_cong : (m n : ℕ → ℕ) (k b : ℕ) → ((x : ℕ) → In x (chain m k b) → n x ≡ m x) → chain n k b ≡ chain m k b
unfolding chain
chain_cong m n zero b h = refl
chain_cong m n (suc k) b h = rw (h b (inl refl)) (ap (λ (r : List ℕ). b ∷ r) (chain_cong m n k (m b) (λ x i. h x (inr i))))

pub chained_cong : (l : Layout) (m n : ℕ → ℕ) (k b : ℕ) → ((x : ℕ) → In x (chain m k b) → n x ≡ m x) → Chained l m k b → Chained l n k b
unfolding chain Chained
chained_cong l m n zero b h c = (c.0, h b (inl refl) ∙ c.1)
chained_cong l m n (suc k) b h c = (c.0, rw (h b (inl refl)) (chained_cong l m n k (m b) (λ x i. h x (inr i)) c.1))

-- ---- linked blocks read back as a chain

-- each block holds the next one, the last the mark
unfoldable pub Linked : (ℕ → ℕ) → List ℕ → ℕ → Type 0
unfolding first_or
Linked m [] mark = Unit {0}
Linked m (b ∷ bs) mark = (m b ≡ first_or bs mark) × Linked m bs mark

pub linked_cong : (m n : ℕ → ℕ) (bs : List ℕ) (mark : ℕ) → ((b : ℕ) → In b bs → n b ≡ m b) → Linked m bs mark → Linked n bs mark
unfolding Linked
linked_cong m n [] mark h k = tt
linked_cong m n (b ∷ bs) mark h k = (h b (inl refl) ∙ k.0, linked_cong m n bs mark (λ x i. h x (inr i)) k.1)

pub linked_chain : (m : ℕ → ℕ) (b : ℕ) (bs : List ℕ) (mark : ℕ) → Linked m (b ∷ bs) mark → chain m (length bs) b ≡ b ∷ bs
unfolding Linked chain
linked_chain m b [] mark h = refl
linked_chain m b (c ∷ bs) mark h = rw h.0 (ap (λ (r : List ℕ). b ∷ r) (linked_chain m c bs mark h.1))

pub linked_chained : (l : Layout) (m : ℕ → ℕ) (b : ℕ) (bs : List ℕ) → Linked m (b ∷ bs) l.mark → ((x : ℕ) → In x (b ∷ bs) → Data l x) → Chained l m (length bs) b
unfolding Linked Chained
linked_chained l m b [] h d = (d b (inl refl), h.0)
linked_chained l m b (c ∷ bs) h d = (d b (inl refl), rw h.0 (linked_chained l m c bs h.1 (λ x i. d x (inr i))))

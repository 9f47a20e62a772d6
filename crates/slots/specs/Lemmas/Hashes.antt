-- The table of hashes: none taken, a slot passed over, a slot taken; and the way down through the slots with a hash.
-- What the table holds is the highest slot with a hash, and slots with one name and one type have one hash. Assumes nothing.
use Rattle.std.specs.Prelude.{◌≡◌, Bool, List, eqb, length, get_or, set}
use Rattle.std.proofs.Math.Path.{refl, ap}
use Rattle.std.proofs.Common.{sym, ◌∙◌, add-one, length-set, get_or-set_same, get_or-set_other}
use Rattle.std.proofs.Math.Bool.{true, false}
use Prim.Native.Nat.{ℕ, zero, suc, ◌+◌, ◌≤◌, ◌<◌}
use Rattle.std.proofs.Math.Decide.{ℕ_discrete, dec_lt}
use native.Mathlib.Omega.{arith}
use borrow.Author.Tests.{eqb-true, eq-eqb, ne_eqb}
use Rattle.laws.specs.Truth.{pick}
use Rattle.laws.specs.Lemmas.Truth.{both_true, true_both, clash, true_if, false_both, false_if}
use Rattle.laws.specs.Scan.{any}
use Rattle.laws.specs.Lemmas.Scan.{→none, none→}
use Rattle.layout.specs.declared.Layout.{Layout}
use Rattle.layout.specs.Layouts.{slot_offset}
use Rattle.view.specs.Disk.{used}
use Rattle.view.specs.Rules.{has_name_of, repeated}
use Rattle.view.specs.Lemmas.Namesakes.{named_namesakes, namesakes_used}
use Rattle.image.specs.Image.{entry_at, view_of}
use Rattle.slots.specs.Lemmas.Keys.{same_keys}
use Rattle.slots.specs.Hashes.{hash_of, slot_hash, has_hash, has_hash_of, highest, Tops, Lowers}

-- ---- the highest number that passes

module _ (f : ℕ → Bool) where
  pub highest-here : (n : ℕ) → f n ≡ true → highest f (n + 1) ≡ n + 1
  unfolding highest
  highest-here n e = rw (add-one n, e) refl

  pub highest-on : (n : ℕ) → f n ≡ false → highest f (n + 1) ≡ highest f n
  unfolding highest
  highest-on n e = rw (add-one n, e) refl

  pub highest-low : (n : ℕ) → highest f n ≤ n
  unfolding highest
  highest-low zero = omega arith
  highest-low (suc n) = go (f n) (highest-low n)
    where
      go : (t : Bool) → highest f n ≤ n → pick t (suc n) (highest f n) ≤ suc n
      go true ih = omega arith
      go false ih = omega arith

  -- it passes
  pub highest_passes : (n k : ℕ) → highest f n ≡ suc k → f k ≡ true
  unfolding highest
  highest_passes zero k e = absurd (omega arith)
  highest_passes (suc n) k e = go (f n) refl (highest_passes n k) e
    where
      go : (t : Bool) → f n ≡ t → (highest f n ≡ suc k → f k ≡ true) → pick t (suc n) (highest f n) ≡ suc k → f k ≡ true
      go true p ih q = let z : n ≡ k = omega arith in ap f (sym z) ∙ p
      go false p ih q = ih q

  -- and none above it does
  pub highest_above : (n k : ℕ) → highest f n ≤ k → k < n → f k ≡ false
  unfolding highest
  highest_above zero k h l = absurd (omega arith)
  highest_above (suc n) k h l = go (f n) refl (highest_above n k) h (ℕ_discrete k n)
    where
      go : (t : Bool) → f n ≡ t → (highest f n ≤ k → k < n → f k ≡ false) → pick t (suc n) (highest f n) ≤ k → Dec (k ≡ n) → f k ≡ false
      go true p ih q d = absurd (omega arith)
      go false p ih q (yes z) = ap f z ∙ p
      go false p ih q (no z) = ih q (omega arith)

-- ---- hashes

pub same_hash : {low high type x y z : ℕ} → low ≡ x → high ≡ y → type ≡ z → hash_of low high type ≡ hash_of x y z
same_hash p q r = rw (p, q, r) refl

module _ (l : Layout) (b : ℕ → ℕ) where
  hash_parts : (hash s : ℕ) → has_hash l b hash s ≡ true → (used ((view_of l b).entry s) ≡ true) × (slot_hash l b s ≡ hash)
  unfolding has_hash
  hash_parts hash s e =
      let q = both_true (used ((view_of l b).entry s)) (eqb (slot_hash l b s) hash) e in
      (q.0, eqb-true (slot_hash l b s) hash q.1)

  parts_hash : (hash s : ℕ) → used ((view_of l b).entry s) ≡ true → slot_hash l b s ≡ hash → has_hash l b hash s ≡ true
  unfolding has_hash
  parts_hash hash s u e = true_both (used ((view_of l b).entry s)) (eqb (slot_hash l b s) hash) u (eq-eqb (slot_hash l b s) hash e)

  other_hash : (hash s : ℕ) → (slot_hash l b s ≡ hash → ⊥) → has_hash l b hash s ≡ false
  unfolding has_hash
  other_hash hash s n = false_both (used ((view_of l b).entry s)) (eqb (slot_hash l b s) hash) (λ u. ne_eqb (slot_hash l b s) hash n)

  empty_hash : (hash s : ℕ) → used ((view_of l b).entry s) ≡ false → has_hash l b hash s ≡ false
  unfolding has_hash
  empty_hash hash s u = rw u refl

  -- ---- the table

  pub tops_none : (tops : List ℕ) → length tops ≡ 1009 → ((hash : ℕ) → get_or tops hash 0 ≡ 0) → Tops l b tops 0
  unfolding highest
  tops_none tops e z = record { size = e; top = λ hash h. z hash }

  pub lowers_none : (lowers : List ℕ) → length lowers ≡ 512 → Lowers l b lowers 0
  lowers_none lowers e = record { size = e; lower = λ s h. absurd (omega arith) }

  -- an empty slot
  module _ (s : ℕ) (u : used ((view_of l b).entry s) ≡ false) where
    pub tops_same : (tops : List ℕ) → Tops l b tops s → Tops l b tops (s + 1)
    tops_same tops k = record { size = k.size; top = λ hash h. k.top hash h ∙ sym (highest-on (has_hash l b hash) s (empty_hash hash s u)) }

    pub lowers_same : (lowers : List ℕ) → Lowers l b lowers s → Lowers l b lowers (s + 1)
    lowers_same lowers k = record { size = k.size; lower = λ t h w. go t h w (ℕ_discrete t s) }
      where
        go : (t : ℕ) → t < s + 1 → used ((view_of l b).entry t) ≡ true → Dec (t ≡ s) → get_or lowers t 0 ≡ highest (has_hash_of l b t) t
        go t h w (yes p) = absurd (clash (rw p at w) u)
        go t h w (no p) = k.lower t (omega arith) w

  -- a used one
  pub tops_more : (tops : List ℕ) (s hash : ℕ) → Tops l b tops s → used ((view_of l b).entry s) ≡ true → hash ≡ slot_hash l b s → hash < 1009 → Tops l b (set tops hash (s + 1)) (s + 1)
  tops_more tops s hash k u e low = record { size = length-set tops hash (s + 1) ∙ k.size; top = λ other h. go other h (ℕ_discrete other hash) }
    where
      go : (other : ℕ) → other < 1009 → Dec (other ≡ hash) → get_or (set tops hash (s + 1)) other 0 ≡ highest (has_hash l b other) (s + 1)
      go other h (yes p) = rw p (get_or-set_same tops hash (s + 1) 0 (omega (arith, k.size)) ∙ sym (highest-here (has_hash l b hash) s (parts_hash hash s u (sym e))))
      go other h (no p) =
          get_or-set_other tops hash other (s + 1) 0 p ∙ k.top other h ∙ sym (highest-on (has_hash l b other) s (other_hash other s (λ q. p (sym q ∙ sym e))))

  pub lowers_more : (lowers : List ℕ) (s top : ℕ) → Lowers l b lowers s → s < 512 → top ≡ highest (has_hash_of l b s) s → Lowers l b (set lowers s top) (s + 1)
  lowers_more lowers s top k low e = record { size = length-set lowers s top ∙ k.size; lower = λ t h w. go t h w (ℕ_discrete t s) }
    where
      go : (t : ℕ) → t < s + 1 → used ((view_of l b).entry t) ≡ true → Dec (t ≡ s) → get_or (set lowers s top) t 0 ≡ highest (has_hash_of l b t) t
      go t h w (yes p) = rw p (get_or-set_same lowers s top 0 (omega (arith, k.size)) ∙ e)
      go t h w (no p) = get_or-set_other lowers s t top 0 p ∙ k.lower t (omega arith) w

  -- what it holds at a slot's hash
  pub top_held : (tops : List ℕ) (s hash : ℕ) → Tops l b tops s → hash ≡ slot_hash l b s → hash < 1009 → get_or tops hash 0 ≡ highest (has_hash_of l b s) s
  top_held tops s hash k e low = k.top hash low ∙ ap (λ (x : ℕ). highest (has_hash l b x) s) e

  -- ---- names

  pub empty_new : (s : ℕ) → used ((view_of l b).entry s) ≡ false → repeated l (view_of l b) s ≡ false
  unfolding repeated
  empty_new s u = rw u refl

  pub used-repeated : (s : ℕ) → used ((view_of l b).entry s) ≡ true → {r : Bool} → r ≡ any (has_name_of l (view_of l b) s) 0 s → r ≡ repeated l (view_of l b) s
  unfolding repeated
  used-repeated s u e = rw u e

-- The way down through the slots with a slot's hash. Next is one of them plus 1, or 0, and none from there on upwards has the slot's name and type.
pub record Passed (l : Layout) (b : ℕ → ℕ) (s next : ℕ) : Type 0 where
  pub low : next ≤ s
  pub hashed : (k : ℕ) → next ≡ suc k → has_hash_of l b s k ≡ true
  pub none : (t : ℕ) → next ≤ t → t < s → has_name_of l (view_of l b) s t ≡ false

module _ (l : Layout) (b : ℕ → ℕ) (small : (k : ℕ) → b k < 256) (s : ℕ) (here : used ((view_of l b).entry s) ≡ true) where
  -- a slot with the name and the type is used and has the hash
  name_hash : (t : ℕ) → has_name_of l (view_of l b) s t ≡ true → has_hash_of l b s t ≡ true
  unfolding has_name_of entry_at
  name_hash t e =
      let n = named_namesakes ((view_of l b).entry s) ((view_of l b).entry t) e in
      let halves = same_keys b (slot_offset l s) (slot_offset l t) small n.0 in
      parts_hash l b (slot_hash l b s) t (namesakes_used ((view_of l b).entry s) ((view_of l b).entry t) n here)
      (same_hash halves.0 halves.1 (sym n.1))

  unnamed : (t : ℕ) → has_hash_of l b s t ≡ false → has_name_of l (view_of l b) s t ≡ false
  unnamed t e = false_if (has_name_of l (view_of l b) s t) (λ n. clash (name_hash t n) e)

  pub passed_none : (top : ℕ) → top ≡ highest (has_hash_of l b s) s → Passed l b s top
  passed_none top e = rw e (record { low = highest-low (has_hash_of l b s) s; hashed = highest_passes (has_hash_of l b s) s; none = λ t p q. unnamed t (highest_above (has_hash_of l b s) s t p q) })

  module _ (next k : ℕ) (p : Passed l b s next) (e : next ≡ suc k) where
    pub passed_found : has_name_of l (view_of l b) s k ≡ true → any (has_name_of l (view_of l b) s) 0 s ≡ true
    passed_found n = true_if (any (has_name_of l (view_of l b) s) 0 s) (λ q. clash n (none→ (has_name_of l (view_of l b) s) 0 s q k (omega arith) (omega (arith, p.low))))

    -- the table leads to the next lower slot with the hash
    lower_on : (lowers : List ℕ) → Lowers l b lowers s → get_or lowers k 0 ≡ highest (has_hash_of l b s) k
    lower_on lowers h =
        let w = hash_parts l b (slot_hash l b s) k (p.hashed k e) in
        h.lower k (omega (arith, p.low)) w.0 ∙ ap (λ (hash : ℕ). highest (has_hash l b hash) k) w.1

    pub lower_less : (lowers : List ℕ) → Lowers l b lowers s → get_or lowers k 0 < next
    lower_less lowers h = rw (lower_on lowers h) (omega (arith, highest-low (has_hash_of l b s) k))

    pub passed_more : (lowers : List ℕ) → Lowers l b lowers s → has_name_of l (view_of l b) s k ≡ false → Passed l b s (get_or lowers k 0)
    passed_more lowers h n =
        rw (lower_on lowers h)
        (record {
          low = omega (arith, highest-low (has_hash_of l b s) k, p.low);
          hashed = highest_passes (has_hash_of l b s) k;
          none = λ t c d. go t c d (dec_lt t k) (dec_lt k t);
        })
      where
        go : (t : ℕ) → highest (has_hash_of l b s) k ≤ t → t < s → Dec (t < k) → Dec (k < t) → has_name_of l (view_of l b) s t ≡ false
        go t c d (yes q) r = unnamed t (highest_above (has_hash_of l b s) k t c q)
        go t c d (no q) (yes r) = p.none t (omega arith) d
        go t c d (no q) (no r) = let z : t ≡ k = omega arith in rw z n

  pub passed_all : (next : ℕ) → Passed l b s next → next ≡ 0 → any (has_name_of l (view_of l b) s) 0 s ≡ false
  passed_all next p e = →none (has_name_of l (view_of l b) s) 0 s (λ t c d. p.none t (omega arith) (omega arith))

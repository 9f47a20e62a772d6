-- The cascade of searches refuses exactly as is due (`refused_due`), and passes exactly the valid disks (`passed_valid`, `valid_passed`).
-- A search's test holds exactly where its rule is broken; a disk is valid exactly where none is. Assumes nothing.
use Rattle.std.specs.Prelude.{◌≡◌, Bool, false, ℕ, zero, suc, ◌+◌, ◌-◌, ◌≤◌, ◌<◌}
use Rattle.std.proofs.Math.Path.{refl, ap}
use Rattle.std.proofs.Common.{sym, ◌∙◌}
use Rattle.std.proofs.Math.Bool.{true}
use Rattle.std.proofs.Math.Logic.{inl, inr}
use Rattle.std.proofs.Math.Decide.{dec_lt}
use native.Mathlib.Omega.{arith}
use Rattle.laws.specs.Lemmas.Truth.{clash, true_if}
use Rattle.layout.specs.declared.Layout.{Layout}
use Rattle.layout.specs.Right.{LayoutRight}
use Rattle.blocks.specs.Blocks.{links_for}
use Rattle.map.specs.Map.{Walk, Whole, Bad, Cut, Chained, is_whole, fault_of}
use Rattle.map.proofs.Lemmas.Walks.{walk_chained, walk_astray, walk_miscounted}
use Rattle.view.specs.Disk.{View, formed, Used, Owns}
use Rattle.view.specs.Rules.{bad_system, malformed, repeated, walk_of, broken, sharing, stray}
use Rattle.view.specs.Broken.{Rule, system, legal, single, linked, apart, owner, turn, Breaks}

-- ---- turns

rule_at : ℕ → Rule
rule_at zero = system
rule_at (suc zero) = legal
rule_at (suc (suc zero)) = single
rule_at (suc (suc (suc zero))) = linked
rule_at (suc (suc (suc (suc zero)))) = apart
rule_at (suc (suc (suc (suc (suc n))))) = owner

turn_back : (r : Rule) → rule_at (turn r) ≡ r
unfolding rule_at
turn_back system = refl
turn_back legal = refl
turn_back single = refl
turn_back linked = refl
turn_back apart = refl
turn_back owner = refl

pub same_turn : (q r : Rule) → turn q ≡ turn r → q ≡ r
same_turn q r e = sym (turn_back q) ∙ ap rule_at e ∙ turn_back r

-- a fact of every two slots from the same of every slot and a lower one
pub either_side : (P : ℕ → ℕ → Type 0) → ((s t : ℕ) → P s t → P t s) → ((s t : ℕ) → t < s → P s t → ⊥) → (s t : ℕ) → P s t → s ≡ t
either_side P flip h s t p = go (dec_lt s t) (dec_lt t s)
  where
    go : Dec (s < t) → Dec (t < s) → s ≡ t
    go (yes q) d = absurd (h t s q (flip s t p))
    go (no q) (yes r) = absurd (h s t r p)
    go (no q) (no r) = omega arith

module _ (l : Layout) (v : View) where
  -- ---- each rule's search

  abbrev pub test : Rule → ℕ → Bool
  test system = bad_system l v
  test legal = malformed l v
  test single = repeated l v
  test linked = broken l v
  test apart = sharing l v
  test owner = stray l v

  abbrev pub from : Rule → ℕ
  from system = 0
  from legal = 0
  from single = 0
  from linked = 0
  from apart = 0
  from owner = l.first

  abbrev pub size : Rule → ℕ
  size system = l.system
  size legal = l.slots
  size single = l.slots
  size linked = l.slots
  size apart = l.slots
  size owner = l.blocks - l.first

  abbrev pub number_at : Rule → ℕ → ℕ
  number_at system = λ k. 3
  number_at legal = λ s. 4
  number_at single = λ s. 5
  number_at linked = λ s. fault_of (walk_of l v s)
  number_at apart = λ s. 8
  number_at owner = λ b. 9

  -- ---- a search's test holds exactly where its rule is broken

  -- a chain's fault is the walk's
  pub linked_by : (s : ℕ) → Used l v s → (w : Walk) → walk_of l v s ≡ w → is_whole w ≡ false → Breaks l v linked (fault_of w) s
  unfolding walk_of
  linked_by s u Whole e n = absurd (clash refl n)
  linked_by s u Bad e n = (u, inl (refl, walk_astray l v.map _ _ e))
  linked_by s u Cut e n = (u, inr (refl, walk_miscounted l v.map _ _ e))

  -- Where a rule is broken: in its range, its test holds, and the number is the search's.
  pub record Met (r : Rule) (number place : ℕ) : Type 0 where
    pub low : from r ≤ place
    pub high : place < from r + size r
    pub holds : test r place ≡ true
    pub is : number ≡ number_at r place

  module _ (right : LayoutRight l) where
    -- ---- what a search finds

    abbrev pub Unbroken : Rule → Type 0
    Unbroken r = (number place : ℕ) → Breaks l v r number place → ⊥

    -- ---- a disk is valid exactly where no rule is broken

    -- each rule by itself
    pub unbroken_legal : Unbroken legal → (s : ℕ) → Used l v s → formed l (v.entry s) ≡ true
    unbroken_legal u s w = true_if (formed l (v.entry s)) (λ e. u 4 s (refl, w, λ t. clash t e))

    pub unbroken_linked : Unbroken linked → (s : ℕ) → Used l v s → Chained l v.map (links_for (v.entry s).size) (v.entry s).start
    unbroken_linked u s x = chained (walk_of l v s) refl
      where
        chained : (w : Walk) → walk_of l v s ≡ w → Chained l v.map (links_for (v.entry s).size) (v.entry s).start
        chained Whole e = walk_chained l v.map _ _ (unfold walk_of in e)
        chained Bad e = absurd (u 6 s (linked_by s x Bad e refl))
        chained Cut e = absurd (u 7 s (linked_by s x Cut e refl))

    pub unbroken_apart : Unbroken apart → (s t b : ℕ) → Owns l v s b → Owns l v t b → s ≡ t
    unbroken_apart u s t b x y =
        either_side (λ s t. Owns l v s b × Owns l v t b) (λ s t p. (p.1, p.0)) (λ s t h p. u 8 s (refl, (t, h, (b, p.0, p.1)))) s t (x, y)

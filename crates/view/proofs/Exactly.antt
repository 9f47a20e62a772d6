-- The cascade of searches refuses exactly as is due (`refused_due`), and passes exactly the valid disks (`passed_valid`, `valid_passed`).
-- A search's test holds exactly where its rule is broken; a disk is valid exactly where none is. Assumes nothing.
use Rattle.std.specs.Prelude.{◌≡◌, false, ◌↔◌, ◌⊎◌, ℕ, suc, ◌+◌, ◌≤◌, ◌<◌, eqb, Ok, Some, Err, None}
use Rattle.std.proofs.Math.Path.{refl, ap}
use Rattle.std.proofs.Common.{sym, ◌∙◌}
use Rattle.std.proofs.Math.Bool.{true, not}
use Rattle.std.proofs.Math.Logic.{inl, inr}
use Rattle.std.proofs.Math.Decide.{dec_lt, ℕ_discrete}
use native.Mathlib.Omega.{arith}
use borrow.Author.Tests.{eqb-false, ne_eqb, eqb-true, not-true}
use Rattle.laws.specs.Lemmas.Truth.{both_true, true_both, clash, true_if, false_if}
use Rattle.laws.specs.Refusals.{refusal_at, number_of, place_of}
use Rattle.laws.specs.Scan.{lowest, any, Lowest}
use Rattle.laws.specs.Lemmas.Scan.{nowhere→, →nowhere, at→, lowest_least, none→}
use Rattle.laws.proofs.Lemmas.Scan.{some→}
use Rattle.laws.specs.declared.Refusal.{Refusal}
use Rattle.laws.specs.Lists.{meets}
use Rattle.laws.specs.Lemmas.Lists.{apart_of, meeting}
use Rattle.laws.specs.Member.{In, has}
use Rattle.laws.specs.Lemmas.Member.{in_has, out-has, dec_in}
use Rattle.layout.specs.declared.Layout.{Layout}
use Rattle.layout.specs.Right.{LayoutRight}
use Rattle.blocks.specs.Blocks.{links_for}
use Rattle.map.specs.Map.{Walk, Bad, Cut, Data, Astray, Miscounted, is_whole, fault_of}
use Rattle.map.specs.Lemmas.Walks.{chained_walk, astray_walk, miscounted_walk}
use Rattle.view.specs.Disk.{View, used, formed, chain_of, owned, Namesakes, Used, Owns, Valid}
use Rattle.view.specs.Lemmas.Namesakes.{namesakes_named, named_namesakes, namesakes_used, namesakes_back}
use Rattle.view.specs.Lemmas.Counting.{slot_in, owned_by, by_owned}
use Rattle.view.specs.Rules.{or_fail, bad_system, malformed, has_name_of, repeated, walk_of, broken, sharing, stray, rules, Ruled}
use Rattle.view.specs.Broken.{Rule, system, legal, single, linked, apart, owner, turn, Breaks, Due}
use Rattle.view.specs.Exactly.{same_turn, either_side, test, from, size, number_at, linked_by, Met, Unbroken, unbroken_legal, unbroken_linked, unbroken_apart}
use Rattle.laws.specs.Lemmas.Refusals.{refusal_is}

-- ---- turns

module _ (l : Layout) (v : View) where
  -- ---- each rule's search

  abbrev found : Rule → Lowest
  found r = lowest (test l v r) (from l v r) (size l v r)

  -- ---- a search's test holds exactly where its rule is broken

  pub hits : (r : Rule) (p : ℕ) → from l v r ≤ p → p < from l v r + size l v r → test l v r p ≡ true → Breaks l v r (number_at l v r p) p
  unfolding bad_system malformed repeated has_name_of broken sharing stray
  hits system k h q e = (refl, omega arith, eqb-false (v.map k) l.reserved (not-true (eqb (v.map k) l.reserved) e))
  hits legal s h q e =
      let w = both_true (used (v.entry s)) (not (formed l (v.entry s))) e in
      (refl, (omega arith, w.0), λ t. clash t (not-true (formed l (v.entry s)) w.1))
  hits single s h q e =
      let w = both_true (used (v.entry s)) (any (has_name_of l v s) 0 s) e in
      let o = some→ (has_name_of l v s) 0 s w.1 in
      let t = o.0 in
      let n = named_namesakes (v.entry s) (v.entry t) o.3 in
      (refl, (omega arith, w.0), (t, omega (arith, o.2), (omega (arith, o.2), namesakes_used (v.entry s) (v.entry t) n w.0), n))
  hits linked s h q e =
      let w = both_true (used (v.entry s)) (not (is_whole (walk_of l v s))) e in
      linked_by l v s (omega arith, w.0) (walk_of l v s) refl (not-true (is_whole (walk_of l v s)) w.1)
  hits apart s h q e =
      let o = meeting (owned v s) (chain_of v s) e in
      let u = slot_in v s o.0 o.1 in
      let t = owned_by v s o.0 o.2 in
      (refl, (t.0, t.1, (o.0, ((omega arith, u.0), u.1), ((omega (arith, t.1), t.2), t.3))))
  hits owner b h q e =
      let w = both_true (not (eqb (v.map b) 0)) (not (has (owned v l.slots) b)) e in (
        refl,
        (h, omega arith),
        eqb-false (v.map b) 0 (not-true (eqb (v.map b) 0) w.0),
        λ s o. clash (in_has (owned v l.slots) b (by_owned v l.slots b s o.0.0 o.0.1 o.1)) (not-true (has (owned v l.slots) b) w.1),
      )

  met_walk : (s number : ℕ) (w : Walk) → Used l v s → walk_of l v s ≡ w → is_whole w ≡ false → number ≡ fault_of w → Met l v linked number s
  unfolding broken
  met_walk s number w u e n k = record { low = omega arith; high = omega (arith, u.0); holds = true_both (used (v.entry s)) _ u.1 (rw (e, n) refl); is = k ∙ ap fault_of (sym e) }

  module _ (right : LayoutRight l) where
    pub misses : (r : Rule) (number p : ℕ) → Breaks l v r number p → Met l v r number p
    unfolding bad_system malformed repeated has_name_of walk_of sharing chain_of stray
    misses system n k b = record { low = omega arith; high = omega (arith, b.1); holds = rw (ne_eqb (v.map k) l.reserved b.2) refl; is = b.0 }
    misses legal n s b = record {
      low = omega arith;
      high = omega (arith, b.1.0);
      holds = true_both (used (v.entry s)) _ b.1.1 (ap not (false_if (formed l (v.entry s)) b.2));
      is = b.0;
    }
    misses single n s b =
        let t = b.2 in
        let here : has_name_of l v s t.0 ≡ true = namesakes_named (v.entry s) (v.entry t.0) t.3 in
        record {
          low = omega arith;
          high = omega (arith, b.1.0);
          holds = true_both (used (v.entry s)) _ b.1.1 (true_if (any (has_name_of l v s) 0 s) (λ e. clash here (none→ (has_name_of l v s) 0 s e t.0 (omega arith) (omega (arith, t.1)))));
          is = b.0;
        }
    misses linked n s b = go b.1
      where
        go : ((n ≡ 6) × Astray l v.map (links_for (v.entry s).size) (v.entry s).start) ⊎ ((n ≡ 7) × Miscounted l v.map (links_for (v.entry s).size) (v.entry s).start) → Met l v linked n s
        go (inl a) = met_walk s n Bad b.0 (astray_walk l v.map _ _ a.1) refl a.0
        go (inr c) = met_walk s n Cut b.0 (miscounted_walk l right v.map _ _ c.1) refl c.0
    misses apart n s b =
        let t = b.1 in
        let k = t.2 in
        let mine = k.1 in
        let theirs = k.2 in
        record {
          low = omega arith;
          high = omega (arith, mine.0.0);
          holds = true_if (meets (owned v s) (chain_of v s)) (λ e. apart_of (owned v s) (chain_of v s) e k.0 (rw mine.0.1 mine.1) (by_owned v s k.0 t.0 t.1 theirs.0.1 theirs.1));
          is = b.0;
        }
    misses owner n k b = record {
      low = b.1.0;
      high = omega (arith, b.1.1, right.data_some);
      holds = true_both (not (eqb (v.map k) 0)) _ (rw (ne_eqb (v.map k) 0 b.2) refl)
          (ap not (out-has (owned v l.slots) k (λ i. let o = owned_by v l.slots k i in b.3 o.0 ((o.1, o.2), o.3))));
      is = b.0;
    }

    -- ---- what a search finds

    -- a rule whose test holds nowhere in its range
    pub quiet_unbroken : (r : Rule) → ((p : ℕ) → from l v r ≤ p → p < from l v r + size l v r → test l v r p ≡ false) → Unbroken l v right r
    quiet_unbroken r q n p b = let m = misses r n p b in clash m.holds (q p m.low m.high)

    nowhere_unbroken : (r : Rule) → found r ≡ None → Unbroken l v right r
    nowhere_unbroken r e = quiet_unbroken r (nowhere→ (test l v r) (from l v r) (size l v r) e)

    unbroken_nowhere : (r : Rule) → Unbroken l v right r → found r ≡ None
    unbroken_nowhere r u = →nowhere (test l v r) (from l v r) (size l v r) (λ p h k. false_if (test l v r p) (λ t. u (number_at l v r p) p (hits r p h k t)))

    broken_at : (r : Rule) (n p : ℕ) → Breaks l v r n p → ((m q : ℕ) → q < p → Breaks l v r m q → ⊥) → found r ≡ Some p
    broken_at r n p b low = go (found r) refl
      where
        m : Met l v r n p
        m = misses r n p b

        go : (w : Lowest) → found r ≡ w → found r ≡ Some p
        go None e = absurd (nowhere_unbroken r e n p b)
        go (Some q) e =
            let a = at→ (test l v r) (from l v r) (size l v r) q e in
            let h : q ≤ p = lowest_least (test l v r) (from l v r) (size l v r) q e p m.low m.high m.holds in
            same (dec_lt q p) (hits r q a.0 a.1 a.2) h
          where
            same : Dec (q < p) → Breaks l v r (number_at l v r q) q → q ≤ p → found r ≡ Some p
            same (yes k) c h = absurd (low (number_at l v r q) q k c)
            same (no k) c h = let z : q ≡ p = omega arith in e ∙ ap Some z

    -- ---- the cascade refuses as is due

    -- the search of each rule before a turn finds nothing
    abbrev Clear : ℕ → Type 0
    Clear k = (q : Rule) → turn q < k → found q ≡ None

    clear_on : (r : Rule) → Clear (turn r) → found r ≡ None → Clear (suc (turn r))
    clear_on r c e q h = go (ℕ_discrete (turn q) (turn r))
      where
        go : Dec (turn q ≡ turn r) → found q ≡ None
        go (yes t) = ap found (same_turn q r t) ∙ e
        go (no t) = c q (omega arith)

    -- where a rule is broken, its refusal has that number and that place
    told_at : (r : Rule) (n p : ℕ) → Breaks l v r n p → (number_of (refusal_at n p) ≡ n) × (place_of (refusal_at n p) ≡ p)
    told_at system n p b = rw b.0 (refl, refl)
    told_at legal n p b = rw b.0 (refl, refl)
    told_at single n p b = rw b.0 (refl, refl)
    told_at linked n p b = go b.1
      where
        go : ((n ≡ 6) × Astray l v.map (links_for (v.entry p).size) (v.entry p).start) ⊎ ((n ≡ 7) × Miscounted l v.map (links_for (v.entry p).size) (v.entry p).start)
            → (number_of (refusal_at n p) ≡ n) × (place_of (refusal_at n p) ≡ p)
        go (inl w) = rw w.0 (refl, refl)
        go (inr w) = rw w.0 (refl, refl)
    told_at apart n p b = rw b.0 (refl, refl)
    told_at owner n p b = rw b.0 (refl, refl)

    due_at : (r : Rule) (p : ℕ) → found r ≡ Some p → Clear (turn r) → Due l v (refusal_at (number_at l v r p) p)
    due_at r p e c =
        let a = at→ (test l v r) (from l v r) (size l v r) p e in
        let b = hits r p a.0 a.1 a.2 in
        let told = told_at r (number_at l v r p) p b in
        record {
          rule = r;
          broken = rw (told.0, told.1) b;
          earlier = λ o h. nowhere_unbroken o (c o h);
          lower = λ n q h b. let m = misses r n q b in let low : q < p = rw told.1 at h in let k : p ≤ q = lowest_least (test l v r) (from l v r) (size l v r) p e q m.low m.high m.holds in omega arith;
        }

    -- passed with every search empty, or refused as is due
    abbrev Decided : Ruled → Type 0
    Decided x = (Clear 6 × (x ≡ Ok tt)) ⊎ ((q : Refusal) × Due l v q × (x ≡ Err q))

    level : (r : Rule) (next : Ruled) → Clear (turn r) → (Clear (suc (turn r)) → Decided next) → Decided (or_fail (number_at l v r) (found r) next)
    level r next c go = by (found r) refl
      where
        by : (w : Lowest) → found r ≡ w → Decided (or_fail (number_at l v r) (found r) next)
        by None e = rw e (go (clear_on r c e))
        by (Some p) e = rw e (inr (refusal_at (number_at l v r p) p, due_at r p e c, refl))

    decided : Decided (rules l v)
    unfolding rules
    decided =
        level system _ (λ q h. absurd (omega arith)) (λ c.
        level legal _ c (λ c.
        level single _ c (λ c.
        level linked _ c (λ c.
        level apart _ c (λ c.
        level owner (Ok tt) c (λ c. inl (c, refl)))))))

    cascade : (r : Rule) (p : ℕ) → Clear (turn r) → found r ≡ Some p → rules l v ≡ Err (refusal_at (number_at l v r p) p)
    unfolding rules
    cascade system p c e = rw e refl
    cascade legal p c e = rw (c system (omega arith), e) refl
    cascade single p c e = rw (c system (omega arith), c legal (omega arith), e) refl
    cascade linked p c e = rw (c system (omega arith), c legal (omega arith), c single (omega arith), e) refl
    cascade apart p c e = rw (c system (omega arith), c legal (omega arith), c single (omega arith), c linked (omega arith), e) refl
    cascade owner p c e =
        rw (c system (omega arith), c legal (omega arith), c single (omega arith), c linked (omega arith), c apart (omega arith), e) refl

    refused→ : (q : Refusal) → rules l v ≡ Err q → Due l v q
    refused→ q e = go decided
      where
        go : Decided (rules l v) → Due l v q
        go (inl p) = let x : Err q ≡ Ok tt = sym e ∙ p.1 in absurd (let z : ◌≡◌ {A = ℕ} 0 1 = cc in omega arith)
        go (inr d) = let x : Err d.0 ≡ Err q = sym d.2 ∙ e in let z : d.0 ≡ q = cc in rw z at d.1

    →refused : (q : Refusal) → Due l v q → rules l v ≡ Err q
    →refused q d =
        let r = d.rule in
        cascade r (place_of q) (λ o h. unbroken_nowhere o (d.earlier o h)) (broken_at r (number_of q) (place_of q) d.broken d.lower)
        ∙ ap (λ (n : ℕ). Err (refusal_at n (place_of q))) (sym (misses r (number_of q) (place_of q) d.broken).is)
        ∙ ap Err (refusal_is q)

    -- Refusals 3 to 9 are given exactly when they are due.
    pub refused_due : (q : Refusal) → (rules l v ≡ Err q) ↔ Due l v q
    refused_due q = (refused→ q, →refused q)

    -- ---- a disk is valid exactly where no rule is broken

    valid_unbroken : Valid l v → (r : Rule) → Unbroken l v right r
    valid_unbroken w system n k b = b.2 (w.system k b.1)
    valid_unbroken w legal n s b = b.2 (w.legal s b.1)
    valid_unbroken w single n s b = let t = b.2 in let z : s ≡ t.0 = w.single s t.0 b.1 t.2 t.3 in omega (arith, t.1)
    valid_unbroken w linked n s b =
        let m = misses linked n s b in
        let e = chained_walk l right v.map (links_for (v.entry s).size) (v.entry s).start (w.linked s b.0) in
        clash m.holds (unfold broken walk_of in rw (b.0.1, e) refl)
    valid_unbroken w apart n s b = let t = b.1 in let k = t.2 in let z : s ≡ t.0 = w.apart s t.0 k.0 k.1 k.2 in omega (arith, t.1)
    valid_unbroken w owner n k b = let o = w.owner k b.1 b.2 in b.3 o.0 o.1

    -- so no test of its holds
    pub valid_quiet : Valid l v → (r : Rule) (p : ℕ) → from l v r ≤ p → p < from l v r + size l v r → test l v r p ≡ false
    valid_quiet w r p h k = false_if (test l v r p) (λ t. valid_unbroken w r (number_at l v r p) p (hits r p h k t))

    pub unbroken_single : Unbroken l v right single → (s t : ℕ) → Used l v s → Used l v t → Namesakes (v.entry s) (v.entry t) → s ≡ t
    unbroken_single u s t x y e =
        either_side (λ s t. (Used l v s × Used l v t) × Namesakes (v.entry s) (v.entry t)) (λ s t p. ((p.0.1, p.0.0), namesakes_back (v.entry s) (v.entry t) p.1))
        (λ s t h p. u 5 s (refl, p.0.0, (t, h, p.0.1, p.1))) s t ((x, y), e)

    unbroken_valid : ((r : Rule) → Unbroken l v right r) → Valid l v
    unbroken_valid u = record {
      system = λ k h. eqb-true (v.map k) l.reserved (true_if (eqb (v.map k) l.reserved) (λ e. u system 3 k (refl, h, eqb-false (v.map k) l.reserved e)));
      legal = unbroken_legal l v right (u legal);
      single = unbroken_single (u single);
      linked = unbroken_linked l v right (u linked);
      apart = unbroken_apart l v right (u apart);
      owner = λ b d n. owned_or b d n (dec_in b (owned v l.slots));
    }
      where
        owned_or : (b : ℕ) → Data l b → (v.map b ≡ 0 → ⊥) → Dec (In b (owned v l.slots)) → (s : ℕ) × Owns l v s b
        owned_or b d n (yes i) = let o = owned_by v l.slots b i in (o.0, ((o.1, o.2), o.3))
        owned_or b d n (no i) = absurd (u owner 9 b (refl, d, n, λ s o. i (by_owned v l.slots b s o.0.0 o.0.1 o.1)))

    pub passed_valid : rules l v ≡ Ok tt → Valid l v
    passed_valid e = go decided
      where
        few : (r : Rule) → turn r < 6
        few system = omega arith
        few legal = omega arith
        few single = omega arith
        few linked = omega arith
        few apart = omega arith
        few owner = omega arith

        go : Decided (rules l v) → Valid l v
        go (inl p) = unbroken_valid (λ r. nowhere_unbroken r (p.0 r (few r)))
        go (inr d) = let x : Err d.0 ≡ Ok tt = sym d.2 ∙ e in absurd (let z : ◌≡◌ {A = ℕ} 0 1 = cc in omega arith)

    pub valid_passed : Valid l v → rules l v ≡ Ok tt
    valid_passed w = go decided
      where
        go : Decided (rules l v) → rules l v ≡ Ok tt
        go (inl p) = p.1
        go (inr d) = absurd (valid_unbroken w d.1.rule (number_of d.0) (place_of d.0) d.1.broken)

-- What the report says of a slot, and why: `report_exactly`; and 5 by itself: `report_five`.
-- The rules of slots are asked in turn, and a test holds exactly where its rule is broken. Assumes nothing.
use Rattle.std.specs.Prelude.{◌≡◌, Bool, true, false, not, ◌↔◌, ℕ, suc, ◌+◌, ◌≤◌, ◌<◌}
use Rattle.std.proofs.Math.Path.{refl}
use Rattle.std.proofs.Common.{sym, ap, ◌∙◌, arith}
use Rattle.std.proofs.Math.Decide.{ℕ_discrete}
use Rattle.laws.specs.Truth.{pick}
use Rattle.std.proofs.lemmas.Bool.{not-false}
use Rattle.laws.specs.Scan.{any}
use Rattle.laws.specs.Lemmas.Scan.{none→}
use Rattle.laws.proofs.Lemmas.Scan.{some→}
use Rattle.laws.specs.Lemmas.Truth.{both_true, both_false, true_both, clash, true_if, false_if}
use Rattle.layout.specs.declared.Layout.{Layout}
use Rattle.layout.specs.Right.{LayoutRight}
use Rattle.map.specs.Map.{Walk, Whole, Bad, Cut, fault_of}
use Rattle.view.specs.Disk.{View, used, formed, Namesakes}
use Rattle.view.specs.Rules.{malformed, has_name_of, repeated, walk_of, broken, sharing}
use Rattle.view.specs.Lemmas.Namesakes.{namesakes_named, named_namesakes, namesakes_used, namesakes_kept}
use Rattle.view.specs.Broken.{Rule, system, legal, single, linked, apart, owner, turn, Breaks}
use Rattle.view.specs.Exactly.{test, from, size, number_at, same_turn}
use Rattle.view.proofs.Exactly.{hits, misses}
use Rattle.salvage.specs.Salvage.{verdict, disk_after, report_of}
use Rattle.salvage.specs.Lemmas.Judged.{by_tests, verdict_by, clean_kept, empty_verdict, entry_ahead, kept_entry}
use Rattle.salvage.proofs.Lemmas.Judged.{gone_entry}
use Rattle.salvage.specs.Said.{OfSlots, Said, empty, kept, dropped, KeptBelow}

module _ (l : Layout) (right : LayoutRight l) (v : View) (s : ℕ) (slot : s < l.slots) where
  inside : (r : Rule) → OfSlots r → (from l v r ≤ s) × (s < from l v r + size l v r)
  inside system a = absurd (omega (arith, a.0))
  inside legal a = (omega arith, omega arith)
  inside single a = (omega arith, omega arith)
  inside linked a = (omega arith, omega arith)
  inside apart a = (omega arith, omega arith)
  inside owner a = absurd (omega (arith, a.1))

  breaks : (r : Rule) → OfSlots r → test l v r s ≡ true → Breaks l v r (number_at l v r s) s
  breaks r a e = hits l v r s (inside r a).0 (inside r a).1 e

  quiet : (r : Rule) → test l v r s ≡ false → (n : ℕ) → Breaks l v r n s → ⊥
  quiet r e n b = clash (misses l v right r n s b).holds e

  -- ---- it is said

  -- the tests that are asked before a turn fail
  abbrev Clear : ℕ → Type 0
  Clear k = (o : Rule) → OfSlots o → turn o < k → test l v o s ≡ false

  clear_on : (r : Rule) → Clear (turn r) → test l v r s ≡ false → Clear (suc (turn r))
  clear_on r c e o a h = go (ℕ_discrete (turn o) (turn r))
    where
      go : Dec (turn o ≡ turn r) → test l v o s ≡ false
      go (yes t) = ap (λ (q : Rule). test l v q s) (same_turn o r t) ∙ e
      go (no t) = c o a (omega arith)

  level : (r : Rule) → OfSlots r → (next : ℕ) → Clear (turn r) → (Clear (suc (turn r)) → Said l v s next) → Said l v s (pick (test l v r s) (number_at l v r s) next)
  level r a next c go = by (test l v r s) refl
    where
      by : (t : Bool) → test l v r s ≡ t → Said l v s (pick (test l v r s) (number_at l v r s) next)
      by true e = rw e (dropped r a (breaks r a e) (λ o b h. quiet o (c o b h)))
      by false e = rw e (go (clear_on r c e))

  said : Said l v s (verdict l v s)
  said = rw (verdict_by l v s refl refl refl refl refl) (by (used (v.entry s)) refl)
    where
      by : (t : Bool) → used (v.entry s) ≡ t → Said l v s (by_tests l v s t (test l v legal s) (test l v single s) (test l v linked s) (test l v apart s))
      by false u = empty u
      by true u =
          level legal (omega arith, omega arith) _ (λ o a h. absurd (omega (arith, a.0))) (λ c.
          level single (omega arith, omega arith) _ c (λ c.
          level linked (omega arith, omega arith) _ c (λ c.
          level apart (omega arith, omega arith) 1 c (λ c.
          kept u (λ r a. quiet r (c r a (omega (arith, a.1))))))))

  -- ---- nothing else is

  broken_said : (r : Rule) → OfSlots r → (n : ℕ) → Breaks l v r n s → Clear (turn r) → verdict l v s ≡ number_at l v r s
  broken_said system a n b c = absurd (omega (arith, a.0))
  broken_said legal a n b c = verdict_by l v s b.1.1 (misses l v right legal n s b).holds refl refl refl
  broken_said single a n b c = verdict_by l v s b.1.1 (c legal (omega arith, omega arith) (omega arith)) (misses l v right single n s b).holds refl refl
  broken_said linked a n b c =
      verdict_by l v s b.0.1 (c legal (omega arith, omega arith) (omega arith)) (c single (omega arith, omega arith) (omega arith)) (misses l v right linked n s b).holds refl
  broken_said apart a n b c =
      let t = b.1 in
      let k = t.2 in
      let mine = k.1 in
      verdict_by l v s mine.0.1 (c legal (omega arith, omega arith) (omega arith)) (c single (omega arith, omega arith) (omega arith)) (c linked (omega arith, omega arith) (omega arith))
      (misses l v right apart n s b).holds
  broken_said owner a n b c = absurd (omega (arith, a.1))

  unbroken : (r : Rule) → OfSlots r → ((n : ℕ) → Breaks l v r n s → ⊥) → test l v r s ≡ false
  unbroken r a h = false_if (test l v r s) (λ t. h (number_at l v r s) (breaks r a t))

  only : (n : ℕ) → Said l v s n → verdict l v s ≡ n
  only n (empty u) = empty_verdict l v s u
  only n (kept u h) =
      clean_kept l v s u (record {
        formed = unbroken legal (omega arith, omega arith) (h legal (omega arith, omega arith));
        single = unbroken single (omega arith, omega arith) (h single (omega arith, omega arith));
        whole = unbroken linked (omega arith, omega arith) (h linked (omega arith, omega arith));
        apart = unbroken apart (omega arith, omega arith) (h apart (omega arith, omega arith));
      })
  only n (dropped r a b h) =
      broken_said r a n b (λ o c k. unbroken o c (h o c k)) ∙ sym (misses l v right r n s b).is

  verdict_exactly : (n : ℕ) → (verdict l v s ≡ n) ↔ Said l v s n
  verdict_exactly n = (λ e. rw e at said, only n)

-- The report's byte of a slot is n exactly when n is said of it, on the disk without the lower slots that were dropped.
pub report_exactly : (l : Layout) → LayoutRight l → (v : View) (s : ℕ) → s < l.slots → (n : ℕ) → (report_of l v s ≡ n) ↔ Said l (disk_after l v s) s n
report_exactly l right v s = verdict_exactly l right (disk_after l v s) s

-- ---- 5

module _ (l : Layout) (v : View) (s : ℕ) where
  abbrev here : View
  here = disk_after l v s

  as_given : here.entry s ≡ v.entry s
  as_given = entry_ahead l v s s (omega arith)

  -- a lower slot that is kept is as given
  lower_given : (t : ℕ) → t < s → report_of l v t ≡ 1 → here.entry t ≡ v.entry t
  lower_given t h e = kept_entry l v t (rw e refl) s h

  no_fault : (w : Walk) → fault_of w ≡ 5 → ⊥
  no_fault Whole e = omega arith
  no_fault Bad e = omega arith
  no_fault Cut e = omega arith

  five_tests : (u m r b x : Bool) → by_tests l here s u m r b x ≡ 5 → (u ≡ true) × (m ≡ false) × (r ≡ true)
  five_tests false m r b x e = absurd (omega arith)
  five_tests true true r b x e = absurd (omega arith)
  five_tests true false true b x e = (refl, refl, refl)
  five_tests true false false true x e = absurd (no_fault (walk_of l here s) e)
  five_tests true false false false true e = absurd (omega arith)
  five_tests true false false false false e = absurd (omega arith)

  below : used (here.entry s) ≡ true → repeated l here s ≡ true → KeptBelow l v s
  unfolding repeated has_name_of
  below u r =
      let o = some→ (has_name_of l here s) 0 s (both_true (used (here.entry s)) (any (has_name_of l here s) 0 s) r).1 in
      go o.0 (omega (arith, o.2)) (named_namesakes (here.entry s) (here.entry o.0) o.3) (ℕ_discrete (report_of l v o.0) 1)
    where
      go : (t : ℕ) → t < s → Namesakes (here.entry s) (here.entry t) → Dec (report_of l v t ≡ 1) → KeptBelow l v s
      go t h n (yes e) = (t, h, e, namesakes_kept as_given (lower_given t h e) n)
      go t h n (no e) = absurd (clash (namesakes_used (here.entry s) (here.entry t) n u) (gone_entry l v t e s h))

  above : used (here.entry s) ≡ true → KeptBelow l v s → repeated l here s ≡ true
  unfolding repeated has_name_of
  above u (t, h, e, n) =
      let named = namesakes_named (here.entry s) (here.entry t) (namesakes_kept (sym as_given) (sym (lower_given t h e)) n) in
      true_both (used (here.entry s)) (any (has_name_of l here s) 0 s) u (true_if (any (has_name_of l here s) 0 s) (λ z. clash named (none→ (has_name_of l here s) 0 s z t (omega arith) (omega arith))))

  -- 5 is said of a slot ↔ it is used and well formed, and a kept lower slot has its name and its type (document 02, requests four and six).
  pub report_five : (report_of l v s ≡ 5) ↔ ((used (v.entry s) ≡ true) × (formed l (v.entry s) ≡ true) × KeptBelow l v s)
  unfolding malformed
  report_five = (to, from)
    where
      to : report_of l v s ≡ 5 → (used (v.entry s) ≡ true) × (formed l (v.entry s) ≡ true) × KeptBelow l v s
      to e =
          let p = five_tests (used (here.entry s)) (malformed l here s) (repeated l here s) (broken l here s) (sharing l here s) (sym (verdict_by l here s refl refl refl refl refl) ∙ e) in (
            rw as_given at p.0,
            rw as_given at (not-false (formed l (here.entry s)) (both_false (used (here.entry s)) (not (formed l (here.entry s))) p.1 p.0)),
            below p.0 p.2,
          )

      from : (used (v.entry s) ≡ true) × (formed l (v.entry s) ≡ true) × KeptBelow l v s → report_of l v s ≡ 5
      from (u, f, b) =
          let in_use = ap used as_given ∙ u in
          let whole : malformed l here s ≡ false = rw (as_given, u, f) refl in
          verdict_by l here s in_use whole (above in_use b) refl refl

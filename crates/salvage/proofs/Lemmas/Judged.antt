-- Judging slot by slot: a slot's entry is settled once it was taken, and of those that stay used no test of the check finds fault.
-- Each test of a slot reads only the entries up to it. Assumes nothing.
use Rattle.std.specs.Prelude.{◌≡◌, Bool, true, not}
use Rattle.std.proofs.Math.Path.{refl, ap₂}
use Rattle.std.proofs.Common.{sym, ap, ◌∙◌, arith}
use Rattle.std.proofs.Math.Bool.{false}
use mathlib.Core.List.{List, ◌++◌}
use Prim.Native.Nat.{ℕ, zero, suc, ◌≤◌, ◌<◌}
use borrow.Author.Tests.{eq-eqb}
use Rattle.laws.specs.Truth.{both}
use Rattle.laws.specs.Lemmas.Truth.{both_true, clash}
use Rattle.laws.specs.Lemmas.Scan.{any_cong}
use Rattle.laws.specs.Lists.{meets}
use Rattle.layout.specs.declared.Layout.{Layout}
use Rattle.map.specs.Map.{Walk, Whole, Bad, Cut, is_whole, fault_of}
use Rattle.view.specs.Disk.{Entry, View, used, chain_of, owned}
use Rattle.view.specs.Rules.{malformed, has_name_of, repeated, walk_of, broken, sharing}
use Rattle.image.specs.Image.{erased}
use Rattle.salvage.specs.Salvage.{with_entries, verdict, drops, entries_after, disk_after, report_of}
use Rattle.salvage.specs.Lemmas.Judged.{Clean, empty_clean, Case, is_empty_is, is_kept_is, is_dropped_is, by_tests, verdict_by, entry_ahead, entry_settled, kept_entry, dropped_entry}

-- ---- the verdict

fault_drops : (w : Walk) → not (is_whole w) ≡ true → drops (fault_of w) ≡ true
fault_drops Whole e = absurd (clash e refl)
fault_drops Bad e = refl
fault_drops Cut e = refl

module _ (l : Layout) (v : View) (s : ℕ) where
  broken-drops : broken l v s ≡ true → drops (fault_of (walk_of l v s)) ≡ true
  unfolding broken
  broken-drops e = fault_drops (walk_of l v s) (both_true (used (v.entry s)) (not (is_whole (walk_of l v s))) e).1

  case_by : (u m r b x : Bool) → used (v.entry s) ≡ u → malformed l v s ≡ m → repeated l v s ≡ r → broken l v s ≡ b → sharing l v s ≡ x → verdict l v s ≡ by_tests l v s u m r b x → Case l v s
  case_by false m r b x p q i j k e = is_empty_is p e
  case_by true true r b x p q i j k e = is_dropped_is p (rw e refl)
  case_by true false true b x p q i j k e = is_dropped_is p (rw e refl)
  case_by true false false true x p q i j k e = is_dropped_is p (rw e (broken-drops j))
  case_by true false false false true p q i j k e = is_dropped_is p (rw e refl)
  case_by true false false false false p q i j k e = is_kept_is p (record { formed = q; single = i; whole = j; apart = k }) e

  pub case_of : Case l v s
  case_of =
      case_by (used (v.entry s)) (malformed l v s) (repeated l v s) (broken l v s) (sharing l v s) refl refl refl refl refl (verdict_by l v s refl refl refl refl refl)

-- ---- tests read the entries up to their slot

module _ (l : Layout) (v : View) (x y : ℕ → Entry) (s : ℕ) (agree : (t : ℕ) → t ≤ s → x t ≡ y t) where
  abbrev a : View
  a = with_entries v x

  abbrev b : View
  b = with_entries v y

  same-chain : (t : ℕ) → t ≤ s → chain_of a t ≡ chain_of b t
  unfolding chain_of
  same-chain t h = rw (agree t h) refl

  pub same-owned : (n : ℕ) → n ≤ suc s → owned a n ≡ owned b n
  unfolding owned
  same-owned zero h = refl
  same-owned (suc n) h = ap₂ (λ (x y : List ℕ). x ++ y) (same-owned n (omega arith)) (same-chain n (omega arith))

  pub clean_local : Clean l b s → Clean l a s
  unfolding malformed repeated has_name_of broken walk_of sharing
  clean_local c = record {
    formed = rw (agree s (omega arith)) c.formed;
    single =
        ap₂ both (ap used (agree s (omega arith)))
        (any_cong (has_name_of l a s) (has_name_of l b s) 0 s (λ t p q. rw (agree s (omega arith), agree t (omega arith)) refl))
        ∙ c.single;
    whole = rw (agree s (omega arith)) c.whole;
    apart = ap₂ meets (same-owned s (omega arith)) (same-chain s (omega arith)) ∙ c.apart;
  }

-- ---- slot by slot

module _ (l : Layout) (v : View) where
  module _ (s : ℕ) where
    -- after its turn the slot is clean
    after_clean : Case l (disk_after l v s) s → Clean l (disk_after l v (suc s)) s
    unfolding entries_after
    after_clean (is_empty_is u e) = rw e (empty_clean l (disk_after l v s) s u)
    after_clean (is_kept_is u c e) = rw e c
    after_clean (is_dropped_is u e) = empty_clean l (disk_after l v (suc s)) s (rw (e, eq-eqb s s refl) gone)
      where
        gone : used (erased (entries_after l v s s)) ≡ false
        gone = unfold used in refl

    pub clean_after : (n : ℕ) → s < n → Clean l (disk_after l v n) s
    clean_after n h =
        clean_local l v (entries_after l v n) (entries_after l v (suc s)) s (λ t p. entry_settled l v t n (omega arith) ∙ sym (entry_settled l v t (suc s) (omega arith)))
        (after_clean (case_of l (disk_after l v s) s))

    -- what is not kept is empty once its turn is over
    by_case : Case l (disk_after l v s) s → (report_of l v s ≡ 1 → ⊥) → (n : ℕ) → s < n → used (entries_after l v n s) ≡ false
    by_case (is_kept_is i c e) ne n h = absurd (ne e)
    by_case (is_dropped_is i e) ne n h = rw (dropped_entry l v s e n h) (unfold used in refl)
    by_case (is_empty_is i e) ne n h = rw (kept_entry l v s (rw e refl) n h) (rw (entry_ahead l v s s (omega arith)) at i)

    pub gone_entry : (report_of l v s ≡ 1 → ⊥) → (n : ℕ) → s < n → used (entries_after l v n s) ≡ false
    gone_entry = by_case (case_of l (disk_after l v s) s)

    -- what is kept is used, and clean on its turn
    pub kept_case : report_of l v s ≡ 1 → (used (v.entry s) ≡ true) × Clean l (disk_after l v s) s
    kept_case e = go (case_of l (disk_after l v s) s)
      where
        go : Case l (disk_after l v s) s → (used (v.entry s) ≡ true) × Clean l (disk_after l v s) s
        go (is_empty_is i z) = absurd (omega (arith, e, z))
        go (is_kept_is i c z) = (rw (entry_ahead l v s s (omega arith)) at i, c)
        go (is_dropped_is i z) = absurd (clash z (rw e refl))

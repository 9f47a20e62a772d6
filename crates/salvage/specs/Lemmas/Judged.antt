-- Judging slot by slot: a slot's entry is settled once it was taken, and of those that stay used no test of the check finds fault.
-- Each test of a slot reads only the entries up to it. Assumes nothing.
use Rattle.std.specs.Prelude.{◌≡◌, Bool, true, not}
use Rattle.std.proofs.Math.Path.{refl}
use Rattle.std.proofs.Common.{ap, ◌∙◌, arith}
use Rattle.std.proofs.Math.Bool.{false}
use Prim.Native.Nat.{ℕ, zero, suc, ◌≤◌, ◌<◌}
use Rattle.std.proofs.Math.Decide.{ℕ_discrete}
use borrow.Author.Tests.{eq-eqb, ne_eqb}
use Rattle.laws.specs.Truth.{pick}
use Rattle.laws.specs.Lists.{meets}
use Rattle.layout.specs.declared.Layout.{Layout}
use Rattle.map.specs.Map.{fault_of}
use Rattle.view.specs.Disk.{Entry, View, used, chain_of}
use Rattle.view.specs.Rules.{malformed, repeated, walk_of, broken, sharing}
use Rattle.image.specs.Image.{erased}
use Rattle.salvage.specs.Salvage.{verdict, drops, erased_if, entries_after, report_of}

-- No test of the check finds fault with slot s.
pub record Clean (l : Layout) (v : View) (s : ℕ) : Type 0 where
  pub formed : malformed l v s ≡ false
  pub single : repeated l v s ≡ false
  pub whole : broken l v s ≡ false
  pub apart : sharing l v s ≡ false

-- an empty slot is clean
pub empty_clean : (l : Layout) (v : View) (s : ℕ) → used (v.entry s) ≡ false → Clean l v s
unfolding malformed repeated broken sharing chain_of meets
empty_clean l v s u = record { formed = rw u refl; single = rw u refl; whole = rw u refl; apart = rw u refl }

-- ---- the verdict

-- what each verdict says: empty, kept, or dropped
pub data Case (l : Layout) (v : View) (s : ℕ) : Type 0 where
  is_empty_is : used (v.entry s) ≡ false → verdict l v s ≡ 0 → Case l v s
  is_kept_is : used (v.entry s) ≡ true → Clean l v s → verdict l v s ≡ 1 → Case l v s
  is_dropped_is : used (v.entry s) ≡ true → drops (verdict l v s) ≡ true → Case l v s

module _ (l : Layout) (v : View) (s : ℕ) where
  -- the verdict by the tests' answers
  abbrev pub by_tests : Bool → Bool → Bool → Bool → Bool → ℕ
  by_tests u m r b x = pick (not u) 0 (pick m 4 (pick r 5 (pick b (fault_of (walk_of l v s)) (pick x 8 1))))

  same_tests : (u m r b x : Bool) {t n q c y : Bool} → u ≡ t → m ≡ n → r ≡ q → b ≡ c → x ≡ y → by_tests u m r b x ≡ by_tests t n q c y
  same_tests u m r b x e f g h i = rw (e, f, g, h, i) refl

  pub verdict_by : {u m r b x : Bool} → used (v.entry s) ≡ u → malformed l v s ≡ m → repeated l v s ≡ r → broken l v s ≡ b → sharing l v s ≡ x → verdict l v s ≡ by_tests u m r b x
  verdict_by = unfold verdict in same_tests (used (v.entry s)) (malformed l v s) (repeated l v s) (broken l v s) (sharing l v s)

  -- a used slot that is clean is kept
  pub clean_kept : used (v.entry s) ≡ true → Clean l v s → verdict l v s ≡ 1
  clean_kept u c = verdict_by u c.formed c.single c.whole c.apart

  -- an empty one is empty
  pub empty_verdict : used (v.entry s) ≡ false → verdict l v s ≡ 0
  empty_verdict u = verdict_by u refl refl refl refl

-- ---- slot by slot

module _ (l : Layout) (v : View) where
  erased-other : (d : Bool) (s : ℕ) (f : ℕ → Entry) (t : ℕ) → (t ≡ s → ⊥) → erased_if d s f t ≡ f t
  erased-other true s f t n = rw (ne_eqb t s n) refl
  erased-other false s f t n = refl

  -- a slot's turn leaves the others
  turn-other : (n t : ℕ) → (t ≡ n → ⊥) → entries_after l v (suc n) t ≡ entries_after l v n t
  unfolding entries_after
  turn-other n t h = erased-other (drops (report_of l v n)) n (entries_after l v n) t h

  -- a slot that wasn't taken yet is as given
  pub entry_ahead : (n t : ℕ) → n ≤ t → entries_after l v n t ≡ v.entry t
  entry_ahead zero t h = unfold entries_after in refl
  entry_ahead (suc n) t h = turn-other n t (λ e. omega arith) ∙ entry_ahead n t (omega arith)

  -- one that was taken stays as it is
  pub entry_settled : (s n : ℕ) → s < n → entries_after l v n s ≡ entries_after l v (suc s) s
  entry_settled s zero h = absurd (omega arith)
  entry_settled s (suc n) h = go (ℕ_discrete s n) (entry_settled s n)
    where
      go : Dec (s ≡ n) → (s < n → entries_after l v n s ≡ entries_after l v (suc s) s) → entries_after l v (suc n) s ≡ entries_after l v (suc s) s
      go (yes e) ih = rw e refl
      go (no e) ih = turn-other n s e ∙ ih (omega arith)

  module _ (s : ℕ) where
    -- not dropped: the entry is the given one
    pub kept_entry : drops (report_of l v s) ≡ false → (n : ℕ) → s < n → entries_after l v n s ≡ v.entry s
    unfolding entries_after
    kept_entry e n h = entry_settled s n h ∙ rw e (entry_ahead s s (omega arith))

    -- dropped: it is erased
    pub dropped_entry : drops (report_of l v s) ≡ true → (n : ℕ) → s < n → entries_after l v n s ≡ erased (v.entry s)
    unfolding entries_after
    dropped_entry e n h = entry_settled s n h ∙ rw (e, eq-eqb s s refl) (ap erased (entry_ahead s s (omega arith)))

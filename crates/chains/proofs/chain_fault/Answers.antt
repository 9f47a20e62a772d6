-- `chains::chain_fault` meets its contract: the rest of a chain's walk answers as the whole, and the slots left answer as all; marked are
-- the blocks of lower slots' chains. Each way out of a loop and each turn is one law of a walk's steps, of marks or of a search. Assumes nothing.
use Rattle.std.proofs.Common.{◌≡◌, refl, sym, ap, ◌∙◌, Bool, true, false, not, List, ℕ, ◌+◌, ◌-◌, ◌<◌, arith}
use Rattle.std.proofs.Math.Nat.{sub-zero}
use Rattle.blocks.specs.Blocks.{links_for}
use Rattle.chains.specs.Lemmas.Tally.{empty_marks, chain_marks}
use Rattle.chains.specs.Passes.{Followed}
use Rattle.laws.specs.Lemmas.Scan.{lowest_end, lowest_stop, lowest-on}
use Rattle.laws.specs.Lemmas.Truth.{true_both, false_both}
use Rattle.laws.specs.Refusals.{refusal_at}
use Rattle.laws.specs.Scan.{lowest}
use Rattle.layout.specs.Right.{LayoutRight}
use Rattle.layout.specs.declared.Layout.{Layout}
use Rattle.map.specs.Lemmas.Chains.{chain_data}
use Rattle.map.specs.Lemmas.Marks.{marks_none, mark_last, mark_next}
use Rattle.map.specs.Lemmas.Walks.{link_data, walk_bad, walk_whole, walk-over, walk_cut, walk-on}
use Rattle.map.proofs.Lemmas.Walks.{walk_chained}
use Rattle.map.specs.Map.{chain, Chained, Walk, Whole, Bad, Cut, walk, is_whole, fault_of, marked, Marks}
use Rattle.view.specs.Disk.{View, used, owned}
use Rattle.view.specs.Rules.{walk_of, broken}
use Rattle.chains.proofs.chain_fault.Goals as goal
use Rattle.std.specs.Prelude.{Some, Err}

-- ---- a slot's walk and the search's test

module _ (l : Layout) (v : View) (s : ℕ) where
  walk_starts : (k b : ℕ) → k ≡ links_for (v.entry s).size → b ≡ (v.entry s).start → walk_of l v s ≡ walk l v.map k b
  unfolding walk_of
  walk_starts k b x y = rw (x, y)

  empty_sound : used (v.entry s) ≡ false → broken l v s ≡ false
  unfolding broken
  empty_sound e = rw e

  whole_sound : walk_of l v s ≡ Whole → broken l v s ≡ false
  unfolding broken
  whole_sound e = false_both (used (v.entry s)) (not (is_whole (walk_of l v s))) (λ u. ap (λ (w : Walk). not (is_whole w)) e)

  -- the lowest slot whose walk is not whole is the fault, by the refusal of its walk
  stopped : (w : Walk) → s < l.slots → used (v.entry s) ≡ true → walk_of l v s ≡ w → is_whole w ≡ false → lowest (broken l v) 0 l.slots ≡ lowest (broken l v) s (l.slots - s)
      → (ms : List Bool) → Followed l v ms (Err (refusal_at (fault_of w) s))
  stopped w h u e f i ms =
      let bad : broken l v s ≡ true = unfold broken in true_both (used (v.entry s)) (not (is_whole (walk_of l v s))) u (ap (λ (x : Walk). not (is_whole x)) e ∙ ap not f) in
      let found : lowest (broken l v) 0 l.slots ≡ Some s = i ∙ lowest_stop (broken l v) s l.slots h bad in
      record { fault = rw (found, e); marks_all = λ p. let z : ◌≡◌ {A = ℕ} 0 1 = cc in absurd (omega arith) }

  -- with a faultless chain's they are the marks of one slot more
  whole_marks : LayoutRight l → (k b : ℕ) → used (v.entry s) ≡ true → k ≡ links_for (v.entry s).size → b ≡ (v.entry s).start → walk_of l v s ≡ Whole
      → (ms : List Bool) → Marks 1600 ms (owned v s) → Marks 1600 (marked ms (chain v.map k b)) (owned v (s + 1))
  whole_marks right k b u x y w ms m =
      let c : Chained l v.map k b = walk_chained l v.map k b (sym (walk_starts k b x y) ∙ w) in
      chain_marks v s u k b x y (λ i h. omega (arith, (chain_data l right v.map k b i c h).1, right.blocks_most)) ms m

-- ---- the goals

pub slots-init : goal.slots-init
unfolding owned
slots-init c = (omega arith, rw c.requires (marks_none 1600), rw sub-zero)

pub slots-preserved-then-not-is_used : goal.slots-preserved-then-not-is_used
slots-preserved-then-not-is_used c =
    let i = c.slots.invariant in
    let e = sym c.is_used.ensures ∙ c.if-not-is_used.true in
    (omega (arith, c.if-end-next.false), empty_marks _ _ e _ i.1, i.2 ∙ lowest-on _ _ _ c.if-end-next.false (empty_sound _ _ _ e))

pub loop-slot-init : goal.loop-slot-init
loop-slot-init c = (walk_starts _ _ _ _ _ c.links_of-left.ensures c.start_of-block.ensures, refl)

pub returns-then-end-next : goal.returns-then-end-next
returns-then-end-next c =
    let i = c.slots.invariant in
    let a = c.args in
    let z : c.slots.next ≡ a.head.layout.slots = omega arith in
    let e = i.2 ∙ lowest_end _ _ _ c.if-end-next.true in
    record { fault = rw e; marks_all = λ _. rw z at i.1 }

pub bounds-marks-block : goal.bounds-marks-block
bounds-marks-block c =
    let linked = sym c.is_link.ensures ∙ c.if-not-is_link.false in
    omega (arith, (link_data _ _ linked).1, c.args.head.right.blocks_most)

pub map_at-value-requires : goal.map_at-value-requires
map_at-value-requires c =
    let linked = sym c.is_link.ensures ∙ c.if-not-is_link.false in
    omega (arith, (link_data _ _ linked).1)

pub slots-preserved : goal.slots-preserved
slots-preserved c =
    let linked = sym c.is_link.ensures ∙ c.if-not-is_link.false in
    let i = c.slots.invariant in
    let w = c.loop-slot.invariant.0 ∙ walk_whole _ _ _ _ _ linked c.map_at-value.ensures c.if-left-eq0.true c.if-value-mark.true in
    let used_is = sym c.is_used.ensures ∙ c.if-not-is_used.false in
    let m = whole_marks _ _ _ c.args.head.right _ _ used_is c.links_of-left.ensures c.start_of-block.ensures w _ i.1 in
    (omega (arith, c.if-end-next.false), rw (c.loop-slot.invariant.1 ∙ mark_last _ _ _ _ c.if-left-eq0.true) at m, i.2 ∙ lowest-on _ _ _ c.if-end-next.false (whole_sound _ _ _ w))

pub loop-slot-preserved : goal.loop-slot-preserved
loop-slot-preserved c =
    let linked = sym c.is_link.ensures ∙ c.if-not-is_link.false in
    let i = c.loop-slot.invariant in
    (i.0 ∙ walk-on _ _ _ _ _ linked c.map_at-value.ensures c.if-left-eq0.false c.if-value-mark-2.false, i.1 ∙ mark_next _ _ _ _ _ c.map_at-value.ensures c.if-left-eq0.false)

pub returns-then-not-is_link : goal.returns-then-not-is_link
returns-then-not-is_link c =
    stopped _ _ _ Bad c.if-end-next.false (sym c.is_used.ensures ∙ c.if-not-is_used.false) (c.loop-slot.invariant.0 ∙ walk_bad _ _ _ _ (sym c.is_link.ensures ∙ c.if-not-is_link.true)) refl c.slots.invariant.2 _

pub returns-else-value-mark : goal.returns-else-value-mark
returns-else-value-mark c =
    let linked = sym c.is_link.ensures ∙ c.if-not-is_link.false in
    stopped _ _ _ Cut c.if-end-next.false (sym c.is_used.ensures ∙ c.if-not-is_used.false) (c.loop-slot.invariant.0 ∙ walk-over _ _ _ _ _ linked c.map_at-value.ensures c.if-left-eq0.true c.if-value-mark.false) refl c.slots.invariant.2 _

pub returns-then-value-mark-2 : goal.returns-then-value-mark-2
returns-then-value-mark-2 c =
    let linked = sym c.is_link.ensures ∙ c.if-not-is_link.false in
    stopped _ _ _ Cut c.if-end-next.false (sym c.is_used.ensures ∙ c.if-not-is_used.false) (c.loop-slot.invariant.0 ∙ walk_cut _ _ _ _ _ linked c.map_at-value.ensures c.if-left-eq0.false c.if-value-mark-2.true) refl c.slots.invariant.2 _

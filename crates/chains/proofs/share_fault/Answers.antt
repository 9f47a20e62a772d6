-- `chains::share_fault` meets its contract: marked are the blocks of lower slots' chains, so a slot that comes upon one shares it.
-- No chain is broken, so each is a faultless one to walk; the slots left answer as all. Assumes nothing.
use Rattle.std.proofs.Common.{◌≡◌, refl, sym, ap, ◌∙◌, Bool, true, false, List, ℕ, ◌+◌, ◌<◌, arith, rules}
use Rattle.blocks.specs.Blocks.{links_for}
use Rattle.chains.specs.Lemmas.Tally.{empty_marks, chain_marks, slot_chained}
use Rattle.laws.proofs.Lemmas.Search.{searched_found, searched_more, searched_all}
use Rattle.laws.specs.Lemmas.Search.{searched_none}
use Rattle.laws.specs.Lists.{meets}
use Rattle.laws.specs.Member.{In}
use Rattle.laws.specs.Scan.{lowest}
use Rattle.layout.specs.Right.{LayoutRight}
use Rattle.layout.specs.declared.Layout.{Layout}
use Rattle.map.specs.Lemmas.Chains.{chain_data}
use Rattle.map.specs.Lemmas.Marks.{marks_none, touched-meets}
use Rattle.map.specs.Map.{chain, Chained, touched, marked, Marks}
use Rattle.view.specs.Disk.{View, used, chain_of, owned}
use Rattle.view.specs.Rules.{broken, sharing}
use Rattle.chains.proofs.share_fault.Goals as goal
use Rattle.std.specs.Prelude.{None}

-- ---- an empty slot: nothing is shared

empty_apart : (v : View) (s : ℕ) → used (v.entry s) ≡ false → (l : Layout) → sharing l v s ≡ false
unfolding sharing
empty_apart v s empty l = rw empty

-- ---- a used slot, its chain walked with k links from block b

record Walked (l : Layout) (v : View) (s k b : ℕ) : Type 0 where
  chained : Chained l v.map k b
  inside : (x : ℕ) → In x (chain v.map k b) → x < 1600
  all : chain_of v s ≡ chain v.map k b
  marks : (ms : List Bool) → Marks 1600 ms (owned v s) → Marks 1600 (marked ms (chain v.map k b)) (owned v (s + 1))

module _ (l : Layout) (v : View) (s k b : ℕ) where
  -- where no chain is broken, a used slot's is faultless
  slot_walked : LayoutRight l → lowest (broken l v) 0 l.slots ≡ None → s < l.slots → used (v.entry s) ≡ true → k ≡ links_for (v.entry s).size → b ≡ (v.entry s).start
      → Walked l v s k b
  unfolding chain_of
  slot_walked right sound h u links start =
      let c : Chained l v.map k b = rw (links, start) (slot_chained l right v sound s h u) in
      let inside : (x : ℕ) → In x (chain v.map k b) → x < 1600 = λ x i. omega (arith, (chain_data l right v.map k b x c i).1, right.blocks_most) in
      record { chained = c; inside = inside; all = rw (u, links, start); marks = chain_marks v s u k b links start inside }

  -- it shares a block where it touches the marks of the slots below
  shared_is : Walked l v s k b → (ms : List Bool) → Marks 1600 ms (owned v s) → sharing l v s ≡ touched ms (chain v.map k b)
  unfolding sharing
  shared_is w ms m = ap (meets (owned v s)) w.all ∙ sym (touched-meets 1600 ms (owned v s) (chain v.map k b) w.inside m)

pub loop-slot-init : goal.loop-slot-init
unfolding owned
loop-slot-init c = (searched_none _ _, rw c.requires.1 (marks_none 1600))

pub loop-slot-preserved-then-not-is_used : goal.loop-slot-preserved-then-not-is_used
loop-slot-preserved-then-not-is_used c =
    let i = c.loop-slot.invariant in
    let e = sym c.is_used.ensures ∙ c.if-not-is_used.true in
    (searched_more _ _ _ i.0 c.loop-slot-test.true (sym (empty_apart _ _ e _)) refl, empty_marks _ _ e _ i.1)

pub touches-requires : goal.touches-requires
touches-requires c =
    let p = c.requires in
    let w = slot_walked _ _ _ _ _ c.args.head.right p.0 c.loop-slot-test.true (sym c.is_used.ensures ∙ c.if-not-is_used.false) c.links_of-links.ensures c.start_of-start.ensures in
    (search rules, c.args.head.right, w.chained)

pub mark_chain-requires : goal.mark_chain-requires
mark_chain-requires c =
    let p = c.requires in
    let w = slot_walked _ _ _ _ _ c.args.head.right p.0 c.loop-slot-test.true (sym c.is_used.ensures ∙ c.if-not-is_used.false) c.links_of-links.ensures c.start_of-start.ensures in
    (search rules, c.args.head.right, w.chained)

pub returns-then-touches : goal.returns-then-touches
returns-then-touches c =
    let p = c.requires in
    let i = c.loop-slot.invariant in
    let w = slot_walked _ _ _ _ _ c.args.head.right p.0 c.loop-slot-test.true (sym c.is_used.ensures ∙ c.if-not-is_used.false) c.links_of-links.ensures c.start_of-start.ensures in
    searched_found _ _ _ i.0 c.loop-slot-test.true (c.touches.ensures ∙ sym (shared_is _ _ _ _ _ w _ i.1)) c.if-touches.true

pub loop-slot-preserved : goal.loop-slot-preserved
loop-slot-preserved c =
    let p = c.requires in
    let i = c.loop-slot.invariant in
    let w = slot_walked _ _ _ _ _ c.args.head.right p.0 c.loop-slot-test.true (sym c.is_used.ensures ∙ c.if-not-is_used.false) c.links_of-links.ensures c.start_of-start.ensures in
    (searched_more _ _ _ i.0 c.loop-slot-test.true (c.touches.ensures ∙ sym (shared_is _ _ _ _ _ w _ i.1)) c.if-touches.false, rw c.mark_chain.ensures (w.marks _ i.1))

pub returns : goal.returns
returns c = searched_all _ _ _ c.loop-slot.invariant.0 c.loop-slot-test.false

-- `slots::count_formed` meets its contract: the lowest malformed slot of those left is that of all, and the slots counted and those of the rest are all used ones.
-- One search, by its laws; each slot passed is used, and counted, or it isn't. Assumes nothing.
use Rattle.slots.proofs.count_formed.Invariants.{is_used}
use Rattle.std.proofs.Common.{◌≡◌, sym, ap, ap₂, ◌∙◌, ◌-◌, arith}
use Rattle.image.specs.Image.{view_of}
use Rattle.laws.specs.Lemmas.Scan.{count_end, count_stop, count-on}
use Rattle.laws.specs.Lemmas.Search.{searched_none}
use Rattle.laws.proofs.Lemmas.Search.{searched_found, searched_more, searched_all}
use Rattle.laws.specs.Reader.{bytes}
use Rattle.laws.specs.Scan.{count, Lowest}
use Rattle.rules.specs.Check.{used_count}
use Rattle.slots.specs.Forms.{or_used}
use Rattle.slots.proofs.count_formed.Goals as goal
use Rattle.slots.proofs.count_formed.Goals.{then-is_used, else-is_used}

pub loop-slot-init : goal.loop-slot-init
loop-slot-init c =
    let z : c.args.layout.slots - 0 ≡ c.args.layout.slots = omega arith in
    (searched_none _ _, omega arith, omega arith, rw z (omega arith))

pub returns-then-is_malformed : goal.returns-then-is_malformed
returns-then-is_malformed c =
    let a = c.args in
    ap (λ (x : Lowest). or_used x (used_count a.layout (view_of a.layout (bytes a.head.now)))) (searched_found _ _ _ c.loop-slot.invariant.0 (omega arith) c.is_malformed.ensures c.if-is_malformed.true)

pub loop-slot-preserved : goal.loop-slot-preserved
loop-slot-preserved c =
    let k = c.loop-slot in
    let a = c.args in
    let test = is_used a.layout (bytes a.head.now) in
    let more = searched_more _ _ _ k.invariant.0 (omega arith) c.is_malformed.ensures c.if-is_malformed.false in
    elim c.if-is_used.branch [
      | then-is_used w ↦
          let one = count_stop test k.slot a.layout.slots (omega arith) (sym c.is_used.ensures ∙ w.if-is_used.true) in (more, omega arith, omega arith, omega arith)
      | else-is_used w ↦
          let none = count-on test k.slot a.layout.slots (omega arith) (sym c.is_used.ensures ∙ w.if-is_used.false) in (more, omega arith, omega arith, omega arith)
    ]

pub returns : goal.returns
unfolding used_count
returns c =
    let k = c.loop-slot in
    let a = c.args in
    let all : k.counted ≡ count (is_used a.layout (bytes a.head.now)) 0 a.layout.slots =
    omega (arith, count_end (is_used a.layout (bytes a.head.now)) k.slot a.layout.slots (omega arith)) in
    ap₂ or_used (searched_all _ _ _ k.invariant.0 (omega arith)) all

-- `chains::count_marked` meets its contract: the marked blocks counted and those of the blocks left are all of them.
-- Each turn is one law of a count. Assumes nothing.
use Rattle.std.proofs.Common.{◌≡◌, sym, ◌∙◌, List, Bool, true, false, ℕ, ◌+◌, ◌-◌, ◌<◌, ◌≤◌, arith, length, take, drop, get_or, get_or-take, get_or-drop, length-take, length-drop}
use Rattle.chains.proofs.count_marked.Invariants.{Counting, is_marked}
use Rattle.laws.specs.Lemmas.Scan.{count_end, count_stop, count-on}
use Rattle.layout.specs.declared.Layout.{Layout}
use Rattle.chains.proofs.count_marked.Goals.{then-mark, else-mark}
use Rattle.chains.proofs.count_marked.Goals as goal

-- the marks of the data blocks are lent
lent_size : (ms : List Bool) (first n : ℕ) → first + n ≤ length ms → length (take n (drop first ms)) ≡ n
lent_size ms first n h = omega (arith, length-take n (drop first ms), length-drop first ms)

module _ (l : Layout) (ms : List Bool) (marked i : ℕ) (c : Counting l ms marked i) (low : i < length (take (l.blocks - l.first) (drop l.first ms))) (held : l.blocks ≤ length ms) where
  below : l.first + i < l.blocks
  below = omega (arith, length-take (l.blocks - l.first) (drop l.first ms))

  next : l.first + (i + 1) ≡ l.first + i + 1
  next = omega arith

  lent-mark : get_or (take (l.blocks - l.first) (drop l.first ms)) i false ≡ is_marked ms (l.first + i)
  lent-mark = get_or-take (l.blocks - l.first) (drop l.first ms) i false (omega (arith, below)) ∙ get_or-drop l.first ms i false

  one_more : get_or (take (l.blocks - l.first) (drop l.first ms)) i false ≡ true → Counting l ms (marked + 1) (i + 1)
  one_more t = (omega (arith, c.0), rw next (omega (arith, c.1, count_stop (is_marked ms) (l.first + i) l.blocks below (sym lent-mark ∙ t))))

  no_more : get_or (take (l.blocks - l.first) (drop l.first ms)) i false ≡ false → Counting l ms marked (i + 1)
  no_more t = (omega (arith, c.0), rw next (omega (arith, c.1, count-on (is_marked ms) (l.first + i) l.blocks below (sym lent-mark ∙ t))))

pub loop-mark-init : goal.loop-mark-init
loop-mark-init c =
    let z : c.args.head.layout.first + 0 ≡ c.args.head.layout.first = omega arith in
    (omega arith, rw z (omega arith))

pub overflow_add-marked : goal.overflow_add-marked
overflow_add-marked c = omega (arith, c.args.head.right.blocks_most, c.loop-mark.invariant.0, below c.args.head.layout c.args.marks.now _ _ c.loop-mark.invariant c.loop-mark-test.true (omega (arith, c.args.head.right.blocks_most)))

pub loop-mark-preserved : goal.loop-mark-preserved
loop-mark-preserved c =
    let held : c.args.head.layout.blocks ≤ length c.args.marks.now = omega (arith, c.args.head.right.blocks_most) in
    elim c.if-mark.branch [
      | then-mark w ↦ rw w.marked-is (one_more c.args.head.layout _ _ _ c.loop-mark.invariant c.loop-mark-test.true held w.if-mark.true)
      | else-mark w ↦ rw w.marked-is (no_more c.args.head.layout _ _ _ c.loop-mark.invariant c.loop-mark-test.true held w.if-mark.false)
    ]

pub returns : goal.returns
returns c =
    let l = c.args.head.layout in
    omega (arith, c.from.ensures, c.loop-mark.invariant.1, count_end (is_marked c.args.marks.now) (l.first + c.loop-mark.mark-index) l.blocks (omega (arith, lent_size c.args.marks.now l.first (l.blocks - l.first) (omega (arith, c.args.head.right.blocks_most)))))

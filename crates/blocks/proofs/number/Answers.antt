-- `blocks::number` meets its contract: from the last byte to the first, a byte and 256 times what was read is the number one byte wider.
-- One law over the width, `number_next`; up to eight bytes the number fits. Assumes nothing.
use Rattle.std.proofs.Common.{◌≡◌, refl, ℕ, suc, ◌+◌, ◌-◌, ◌*◌, ◌^◌, ◌≤◌, ◌<◌, arith}
use Rattle.blocks.specs.Numbers.{number, Number}
use Rattle.blocks.specs.Lemmas.Numbers.{number_next, number_fits}
use Rattle.laws.specs.Reader.{bytes}
use Rattle.blocks.proofs.number.Given.{Over}
use Rattle.blocks.proofs.number.Goals as goal

-- a turn, with the index as the code has it
turn : (width : ℕ) (b : ℕ → ℕ) (at i : ℕ) {x y : ℕ} → 0 < i → i ≤ width → x ≡ b (at + (i - 1)) → x < 256 → Number (width - i) b (at + i) y
    → Number (width - (i - 1)) b (at + (i - 1)) (x + 256 * y)
turn width b at i some within is small n =
    let back : at + i ≡ at + (i - 1) + 1 = omega arith in
    let wider : suc (width - i) ≡ width - (i - 1) = omega arith in
    rw (← wider) (number_next (width - i) b (at + (i - 1)) is small (rw back at n))

next : (g : Over) (c : goal.After-from g) → Number (g.row.N - (c.loop-i.i - 1)) (bytes c.args.source.now) (c.args.at + (c.loop-i.i - 1)) (c.from.result + 256 * c.loop-i.number)
next g c =
    let i = c.loop-i.i in
    turn g.row.N (bytes c.args.source.now) c.args.at i (omega arith) (omega arith) c.from.ensures (omega (arith, c.type_inv.source (c.args.at + (i - 1)))) c.loop-i.invariant

fits : (g : Over) (c : goal.After-from g) → c.from.result + 256 * c.loop-i.number < 2 ^ 64
fits g c = number_fits (g.row.N - (c.loop-i.i - 1)) (omega arith) (next g c)

pub loop-i-init : goal.loop-i-init
unfolding number
loop-i-init g c = let none : g.row.N - g.row.N ≡ 0 = omega arith in rw none (record { value = refl; small = omega arith })

pub overflow_mul-number : goal.overflow_mul-number
overflow_mul-number g c = omega (arith, fits g c)

pub overflow_add-number : goal.overflow_add-number
overflow_add-number g c = omega (arith, fits g c)

pub loop-i-preserved : goal.loop-i-preserved
loop-i-preserved g c = next g c

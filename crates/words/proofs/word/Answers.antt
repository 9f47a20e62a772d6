-- `words::word` meets its contract: the bits turned by half of their range, and lowered by it, are the word.
-- One law over the range, `lowered_word`. Assumes nothing.
use Rattle.std.proofs.Common.{pow_mono, ◌≡◌, ◌∙◌, ℕ, ◌+◌, ◌-◌, ◌*◌, ◌%◌, ◌^◌, ◌≤◌, ◌<◌, ap, arith, w16, to_z-of_z}
use Rattle.std.proofs.Math.IntN.{sub_ℕ}
use Rattle.std.proofs.Math.Nat.{mod-eq_of_lt, mod-eq-sub-mod}
use Rattle.std.proofs.lemmas.Grind.{pow_more}
use Rattle.words.specs.Words.{word_of}
use Rattle.words.specs.Lemmas.Signed.{lowered_word}
use Rattle.words.proofs.word.Goals as goal

-- the bits turned by half of their range
turned : (half bits : ℕ) → bits < 2 * half → sub_ℕ ((bits + half) % (2 * half)) half ≡ word_of (2 * half) bits
turned half bits h =
    lowered_word half bits ((bits + half) % (2 * half)) (λ k. mod-eq_of_lt (omega arith))
    (λ k. mod-eq-sub-mod {n = bits + half} {m = 2 * half} (omega arith) ∙ mod-eq_of_lt (omega arith) ∙ omega arith)
    h

pub returns : goal.returns
returns g c =
    let n = g.row.BITS in
    let half = 2 ^ (n - 1) in
    let on : n ≡ n - 1 + 1 = omega arith in
    let twice : 2 ^ n ≡ 2 * half = ap (λ k. 2 ^ k) on ∙ pow_more 2 (n - 1) ∙ omega arith in
    let most : 2 ^ n ≤ 65536 = pow_mono c.requires.width.1 in
    let low : 1 * half % 4294967296 ≡ half = omega arith in
    to_z-of_z {w = w16} (record { sfits = c.lowered.type_inv }) ∙ c.lowered.ensures ∙ rw (low, c.from.ensures, twice) (turned half c.args.bits (omega arith))

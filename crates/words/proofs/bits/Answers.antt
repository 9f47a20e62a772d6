-- `words::bits` meets its contract: a word's 16 bits have its low bits, since 2 ^ BITS divides 65,536.
-- One law over the number of values, `low_bits_of`. Assumes nothing.
use Rattle.std.proofs.Common.{◌≡◌, ◌∙◌, sym, ap, ◌*◌, ◌%◌, ◌^◌, ◌+◌, ◌-◌, ◌≤◌, arith, pow_mono, of_z}
use Rattle.std.specs.Int.{w16}
use Rattle.std.proofs.lemmas.Nat.{pow-add, pow_pos}
use Rattle.words.specs.Lemmas.Signed.{low_bits_of, read_back}
use Rattle.words.proofs.bits.Goals as goal

pub returns : goal.returns
returns g c =
    let n = g.row.BITS in
    let most : 2 ^ n ≤ 65536 = pow_mono c.requires in
    let some = pow_pos n in
    let low : 1 * 2 ^ n % 4294967296 ≡ 2 ^ n = omega arith in
    let all : n + (16 - n) ≡ 16 = omega arith in
    let divides : 2 ^ n * 2 ^ (16 - n) ≡ 65536 = sym (pow-add 2 n (16 - n)) ∙ ap (λ k. 2 ^ k) all in
    let whole : c.from.result ≡ of_z w16 c.args.word = c.from.ensures ∙ c.cast_unsigned.ensures ∙ ap (of_z w16) (read_back c.args.word c.ranges.word) in (
      ap (λ m. c.from.result % m) low ∙ ap (λ x. x % 2 ^ n) whole ∙ low_bits_of (2 ^ n) (2 ^ (16 - n)) c.args.word divides c.ranges.word,
      omega arith,
    )

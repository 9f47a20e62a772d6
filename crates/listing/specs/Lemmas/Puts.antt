-- Texts that are put into a lent output one after another: what the output then holds, and where the next one goes.
-- What would lie past the output's end is left out, so joining needs no room; a last bound shows that there is some. Assumes nothing.
use Rattle.std.specs.Prelude.{◌≡◌, refl, Bool, true, false, List, [], ◌∷◌, ◌++◌, ℕ, zero, suc, ◌+◌, ◌-◌, ◌/◌, ◌%◌, ◌^◌, ◌≤◌, ◌<◌, ltb, length, take}
use Rattle.std.proofs.Common.{ap, ◌∙◌, zero-add, sub-one, arith, length-append, lt-ltb, le-ltb}
use Rattle.std.proofs.Math.Nat.{one-le-pow, sub-zero}
use Rattle.std.proofs.lemmas.List.Edits.{sets-eq}
use Rattle.io.specs.Digits.{hex_digit_ascii, last_digits, IsDigitCount}
use Rattle.laws.specs.Splice.{splice}
use Rattle.laws.specs.Lemmas.Splice.{splice-append, splice_none, length-splice}
use Rattle.laws.specs.Truth.{pick}
use Rattle.listing.specs.Listing.{decimal_in, decimal}
use Rattle.listing.specs.Puts.{Puts, Fills}

-- ---- joining

pub puts_none : {at : ℕ} {a : List ℕ} → Puts 0 [] at a a at
puts_none {at} {a} = record { out = splice_none a at; count = omega arith; near = omega arith }

module _ {at : ℕ} {a b : List ℕ} {q m : ℕ} {t : List ℕ} (p : Puts m t at a b q) where
  pub length_puts : length b ≡ length a
  length_puts = ap length p.out ∙ length-splice a at t

  -- with another bound
  pub puts_near : (n : ℕ) → q ≤ at + n → Puts n t at a b q
  puts_near n h = record { out = p.out; count = p.count; near = h }

  pub puts_then : {n : ℕ} {u : List ℕ} {c : List ℕ} {r : ℕ} → Puts n u q b c r → Puts (m + n) (t ++ u) at a c r
  puts_then {n} {u} s = record {
    out = s.out ∙ rw (p.out, p.count) (splice-append a at t u);
    count = omega (arith, p.count, s.count, length-append t u);
    near = omega (arith, p.near, s.near);
  }

-- all of it, from the output's first byte on
pub puts_fills : {m : ℕ} {t a b : List ℕ} {r : ℕ} → Puts m t 0 a b r → m ≤ length a → Fills t a b r
unfolding splice
puts_fills {m} {t} {a} p h = record {
  out = p.out ∙ sets-eq t a 0 (omega (arith, p.count, p.near)) ∙ rw zero-add refl;
  count = omega (arith, p.count);
  room = omega (arith, p.count, p.near);
  front = omega (arith, p.near, length_puts p);
}

-- ---- decimal digits

pick_short : (t : Bool) (ds : List ℕ) → length (pick t [] ds) ≤ length ds
pick_short true ds = omega arith
pick_short false ds = omega arith

short_by : (k steps n : ℕ) → n < 10 ^ suc k → length (decimal_in steps n) ≤ suc k
unfolding decimal_in
short_by k zero n h = omega arith
short_by zero (suc steps) n h = rw (lt-ltb n 10 (omega arith)) (omega arith)
short_by (suc k) (suc steps) n h =
    let ds = decimal_in steps (n / 10) in
    omega (arith, length-append (pick (ltb n 10) [] ds) (hex_digit_ascii (n % 10) ∷ []), pick_short (ltb n 10) ds, short_by k steps (n / 10) (omega arith))

-- A number below ten to the power of k + 1 has at most k + 1 digits.
pub decimal_short : (k n : ℕ) → n < 10 ^ suc k → length (decimal n) ≤ suc k
unfolding decimal
decimal_short k n h = short_by k (suc n) n h

digits_by : (k steps n : ℕ) → n ≤ steps → n < 10 ^ suc k → (0 < k → 10 ^ k ≤ n) → last_digits 10 (suc k) n ≡ decimal_in (suc steps) n
unfolding decimal_in
digits_by zero steps n h p q = rw (lt-ltb n 10 (omega arith)) refl
digits_by (suc k) zero n h p q = absurd (omega (arith, q (omega arith), one-le-pow (suc k) 10 (omega arith)))
digits_by (suc k) (suc steps) n h p q =
    let least = q (omega arith) in
    let some = one-le-pow k 10 (omega arith) in
    rw (le-ltb n 10 (omega arith)) (ap (λ (r : List ℕ). r ++ (hex_digit_ascii (n % 10) ∷ [])) (digits_by k steps (n / 10) (omega arith) (omega arith) (λ z. omega arith)))

-- The fewest digits that hold a number, as `io` makes them.
pub digits_decimal : (n k : ℕ) (made : List ℕ) → IsDigitCount 10 1 n k → take k made ≡ last_digits 10 k n → take (k - 0) made ≡ decimal n
unfolding decimal
digits_decimal n zero made f e = absurd (omega arith)
digits_decimal n (suc k) made f e = rw sub-zero (e ∙ digits_by k n n (omega arith) f.1 (λ z. rw sub-one at (f.2 (omega arith))))

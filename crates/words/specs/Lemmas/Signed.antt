-- The code's arithmetic on words of 16 bits: a word plus 65,536 has the word's bits, and a number less half of its range is a word.
-- By cases on the sign, each a fact on numbers. Assumes nothing.
use Rattle.std.specs.Prelude.{◌≡◌, refl, Bool, true, false, ℕ, zero, suc, ◌+◌, ◌-◌, ◌*◌, ◌/◌, ◌%◌, ◌≤◌, ◌<◌, ltb, ℤ, pos, negsuc, ◌+ℤ◌, ◌-ℤ◌}
use Rattle.std.proofs.Common.{sym, ap, ◌∙◌, arith, SFits, to_z, of_z, to_z-of_z, lt-ltb, le-ltb, ltb-true, ltb-false}
use Rattle.std.proofs.Math.IntN.{sub_ℕ}
use Rattle.std.proofs.Math.Nat.{div-add-mod, div-lt_iff_lt-mul}
use Rattle.std.proofs.lemmas.Nat.{mod-mul-add}
use Rattle.std.specs.Int.{w16, w32}
use Rattle.std.proofs.lemmas.Int.{to_z_pos}
use Rattle.words.specs.Words.{bits_of, word_of, holds}

-- 16 bits hold a word
abbrev pub Short : ℤ → Type 0
Short (pos n) = n < 32768
Short (negsuc n) = n < 32768

pub short : (w : ℤ) → SFits w16 w → Short w
short (pos n) f = let h = f.sfits in omega arith
short (negsuc n) f = let h = f.sfits in omega arith

pub fits16 : (w : ℤ) → Short w → SFits w16 w
fits16 (pos n) h = record { sfits = omega arith }
fits16 (negsuc n) h = record { sfits = omega arith }

pub fits32 : (w : ℤ) → Short w → SFits w32 w
fits32 (pos n) h = record { sfits = omega arith }
fits32 (negsuc n) h = record { sfits = omega arith }

-- a word as the code reads it, from its bits
pub read_back : (w : ℤ) → SFits w16 w → to_z w16 (of_z w16 w) ≡ w
read_back w f = to_z-of_z {w = w16} {z = w} f

-- ---- a word's low bits

-- counted down from the last of them, numbers have the complement of their low bits
complement : (size more n : ℕ) → size * more ≡ 65536 → n < 65536 → (65536 - suc n) % size ≡ size - 1 - n % size
complement zero more n p h = absurd (omega arith)
complement (suc low) more n p h = rw split (mod-mul-add rest size (size - 1 - n % size) (omega arith))
  where
    size : ℕ
    size = suc low

    rest : ℕ
    rest = more - 1 - n / size

    few : n < more * size
    few = omega arith

    below : n / size < more
    below = (div-lt_iff_lt-mul {k = size} {x = n} {y = more} (omega arith)).1 few

    split : 65536 - suc n ≡ rest * size + (size - 1 - n % size)
    split =
        let e : more ≡ n / size + 1 + rest = omega (arith, below) in
        let f : size * more ≡ size * (n / size + 1 + rest) = ap (λ (m : ℕ). size * m) e in
        omega (arith, div-add-mod n size)

-- where the number of values divides 65,536, they are those of its 16 bits
pub low_bits_of : (size more : ℕ) (w : ℤ) → size * more ≡ 65536 → SFits w16 w → of_z w16 w % size ≡ bits_of size w
low_bits_of size more (pos n) p f = refl
low_bits_of size more (negsuc n) p f = let h = f.sfits in complement size more n p (omega arith)

-- ---- a word plus 65,536

abbrev pub up : ℤ → ℕ
up (pos n) = n + 65536
up (negsuc n) = 65535 - n

pub up_small : (w : ℤ) → Short w → up w < 98304
up_small (pos n) h = omega arith
up_small (negsuc n) h = omega arith

plus : (w : ℤ) → Short w → w +ℤ pos 65536 ≡ pos (up w)
plus (pos n) h = refl
plus (negsuc n) h =
    let a : suc n ≤ 65536 = omega arith in
    let b : 65536 - suc n ≡ 65535 - n = omega arith in
    rw (le-ltb 65536 (suc n) a, b) refl

pub wide-sum : (w : ℤ) → Short w → to_z w32 (of_z w32 (to_z w16 (of_z w16 w))) +ℤ pos 65536 ≡ pos (up w)
wide-sum w h = rw (to_z-of_z {w = w16} {z = w} (fits16 w h), to_z-of_z {w = w32} {z = w} (fits32 w h)) (plus w h)

pub wide_back : (w : ℤ) → Short w → to_z w32 (of_z w32 (to_z w32 (of_z w32 (to_z w16 (of_z w16 w))) +ℤ pos 65536)) ≡ pos (up w)
wide_back w h =
    let k : up w < 98304 = up_small w h in
    rw (wide-sum w h) (to_z-of_z {w = w32} {z = pos (up w)} (record { sfits = omega arith }))

pub up_is : (w : ℤ) → Short w → pos (up w) ≡ w +ℤ pos 65536
up_is w h = sym (plus w h)

-- what the code makes of it, which reads the word from its bits
module _ (w : ℤ) (f : SFits w16 w) {r : ℕ} (e : pos r ≡ to_z w16 (of_z w16 w) +ℤ pos 65536) where
  h : Short w
  h = short w f

  is_up : r ≡ up w
  is_up = let p : pos r ≡ pos (up w) = e ∙ rw (to_z-of_z {w = w16} {z = w} f) (plus w h) in cc

  pub raised_bits12 : r % 4096 ≡ bits_of 4096 w
  raised_bits12 = rw is_up (by w h)
    where
      by : (w : ℤ) → Short w → up w % 4096 ≡ bits_of 4096 w
      by (pos n) h = omega arith
      by (negsuc n) h = omega arith

  pub raised_bits16 : r % 65536 ≡ bits_of 65536 w
  raised_bits16 = rw is_up (by w h)
    where
      by : (w : ℤ) → Short w → up w % 65536 ≡ bits_of 65536 w
      by (pos n) h = omega arith
      by (negsuc n) h = omega arith

  pub raised_low : r < 63488 → false ≡ holds 4096 w
  raised_low k = by w h (rw is_up at k)
    where
      by : (w : ℤ) → Short w → up w < 63488 → false ≡ holds 4096 w
      by (pos n) h k = absurd (omega arith)
      by (negsuc n) h k = let z : 2048 ≤ n = omega arith in rw (le-ltb n 2048 z) refl

  pub raised_high : 63488 ≤ r → ltb r 67584 ≡ holds 4096 w
  raised_high k = rw is_up (by w h (rw is_up at k))
    where
      on : (n : ℕ) (t : Bool) → ltb n 2048 ≡ t → ltb (n + 65536) 67584 ≡ t
      on n true e = let q : n < 2048 = ltb-true n 2048 e in lt-ltb (n + 65536) 67584 (omega arith)
      on n false e = let q : 2048 ≤ n = ltb-false n 2048 e in le-ltb (n + 65536) 67584 (omega arith)

      by : (w : ℤ) → Short w → 63488 ≤ up w → ltb (up w) 67584 ≡ holds 4096 w
      by (pos n) h k = on n (ltb n 2048) refl
      by (negsuc n) h k = let z : n < 2048 = omega arith in rw (lt-ltb n 2048 z) (lt-ltb (65535 - n) 67584 (omega arith))

-- ---- a number less half of its range

minus : (x half : ℕ) → 0 < half → pos x -ℤ pos half ≡ sub_ℕ x half
minus x zero h = absurd (omega arith)
minus x (suc n) h = refl

sub_short : (x half : ℕ) → x < 2 * half → half ≤ 32768 → Short (sub_ℕ x half)
sub_short x half h k = by (ltb x half) refl
  where
    by : (t : Bool) → ltb x half ≡ t → Short (sub_ℕ x half)
    by true e = let q : x < half = ltb-true x half e in rw e (omega arith)
    by false e = let q : half ≤ x = ltb-false x half e in rw e (omega arith)

module _ (x half : ℕ) (h : x < 2 * half) (k : half ≤ 32768) where
  pub less : to_z w32 x -ℤ to_z w32 half ≡ sub_ℕ x half
  less = rw (to_z_pos w32 x (omega arith), to_z_pos w32 half (omega arith)) (minus x half (omega arith))

  pub less16 : SFits w16 (sub_ℕ x half)
  less16 = fits16 (sub_ℕ x half) (sub_short x half h k)

  pub less32 : SFits w32 (sub_ℕ x half)
  less32 = fits32 (sub_ℕ x half) (sub_short x half h k)

-- bits turned by half of their range, and lowered by it
pub lowered_word : (half bits x : ℕ) → (bits < half → x ≡ bits + half) → (half ≤ bits → x ≡ bits - half) → bits < 2 * half → sub_ℕ x half ≡ word_of (2 * half) bits
unfolding word_of
lowered_word half bits x low high h = by (ltb bits half) refl
  where
    by : (t : Bool) → ltb bits half ≡ t → sub_ℕ x half ≡ word_of (2 * half) bits
    by true e =
        let q : bits < half = ltb-true bits half e in
        let y : 2 * half / 2 ≡ half = omega arith in
        let z : x - half ≡ bits = omega (arith, low q) in
        rw (word_of, y, e, le-ltb x half (omega (arith, low q)), z) refl
    by false e =
        let q : half ≤ bits = ltb-false bits half e in
        let y : 2 * half / 2 ≡ half = omega arith in
        let z : half - suc x ≡ 2 * half - 1 - bits = omega (arith, high q) in
        rw (word_of, y, e, lt-ltb x half (omega (arith, high q)), z) refl

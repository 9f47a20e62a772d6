-- Numbers of some bytes, least significant first (document 01, "What the bought archive holds"), read and written.
-- One definition and one law over the width, by induction on it. Assumes nothing.
use Rattle.std.specs.Prelude.{◌≡◌, refl, List, ℕ, zero, suc, ◌+◌, ◌-◌, ◌*◌, ◌/◌, ◌%◌, ◌^◌, ◌≤◌, ◌<◌, length, get_or, set}
use Rattle.std.proofs.Common.{sym, ap, ap₂, ◌∙◌, add-zero, add-suc, suc-add, add-one, arith, ext_get_or}
use Rattle.std.proofs.Math.Decide.{dec_lt}
use Rattle.laws.specs.Splice.{splice}
use Rattle.laws.specs.Lemmas.Splice.{length-splice, get_or-splice_below, get_or-splice_past, get_or-splice_in}
use Rattle.laws.specs.Reader.{bytes}
use Rattle.laws.specs.Lemmas.Reader.{Agree}
use Rattle.blocks.specs.Numbers.{number, digits, top, Number}

pub length_digits : (width v : ℕ) → length (digits width v) ≡ width
unfolding digits
length_digits zero v = refl
length_digits (suc width) v = ap suc (length_digits width (v / 256))

pub number_cong : (width : ℕ) (b c : ℕ → ℕ) (at : ℕ) → Agree at width b c → number width c at ≡ number width b at
unfolding number
number_cong zero b c at h = refl
number_cong (suc width) b c at h =
    ap₂ (λ (x y : ℕ). x + 256 * y) (h at (omega arith) (omega arith)) (number_cong width b c (suc at) (λ i p q. h i (omega arith) (omega arith)))

-- bytes that are a number's read as that number
pub number_is : (width : ℕ) (b : ℕ → ℕ) (at v : ℕ) → v < top width → ((k : ℕ) → k < width → b (at + k) ≡ get_or (digits width v) k 0) → number width b at ≡ v
unfolding number digits
number_is zero b at v h e = omega arith
number_is (suc width) b at v h e =
    let low : b at ≡ v % 256 = ap b (sym (add-zero at)) ∙ e 0 (omega arith) in
    let high : number width b (suc at) ≡ v / 256 =
    number_is width b (suc at) (v / 256) (omega arith) (λ k p. ap b (suc-add at k ∙ sym (add-suc at k)) ∙ e (suc k) (omega arith)) in
    omega arith

-- a number that was written reads back
pub number_same : (width : ℕ) (l : List ℕ) (at v : ℕ) → at + width ≤ length l → v < top width → number width (bytes (splice l at (digits width v))) at ≡ v
number_same width l at v h k =
    number_is width (bytes (splice l at (digits width v))) at v k
    (λ i p. get_or-splice_in l at (digits width v) i (omega (arith, length_digits width v)) (omega (arith, length_digits width v)))

-- ---- code that reads or writes a number byte by byte

-- a number of one byte
pub number-one : (b : ℕ → ℕ) (at : ℕ) {x : ℕ} → x ≡ b at → x < 256 → Number 1 b at x
unfolding number
number-one b at e h = record { value = omega arith; small = omega arith }

-- a byte and the number after it are the number one byte wider
pub number_next : (width : ℕ) (b : ℕ → ℕ) (at : ℕ) {x y : ℕ} → x ≡ b at → x < 256 → Number width b (at + 1) y → Number (suc width) b at (x + 256 * y)
unfolding number
number_next width b at e h n = record { value = rw (e, n.value, add-one at); small = omega (arith, n.small) }

-- more bytes hold larger numbers
pub top_rise : (narrow wide : ℕ) → narrow ≤ wide → top narrow ≤ top wide
top_rise zero zero h = omega arith
top_rise zero (suc wide) h = omega (arith, top_rise zero wide (omega arith))
top_rise (suc narrow) zero h = absurd (omega arith)
top_rise (suc narrow) (suc wide) h = omega (arith, top_rise narrow wide (omega arith))

-- a number of eight bytes at most fits
pub number_fits : (width : ℕ) {b : ℕ → ℕ} {at r : ℕ} → width ≤ 8 → Number width b at r → r < 2 ^ 64
number_fits width h n = omega (arith, n.small, top_rise width 8 h)

-- a number's lowest byte stored, and after it the bytes of the rest
pub store_next : (width : ℕ) (l : List ℕ) (at v : ℕ) → splice (set l at (v % 256)) (at + 1) (digits width (v / 256)) ≡ splice l at (digits (suc width) v)
unfolding splice digits
store_next width l at v = rw (add-one at)

-- ---- bytes are below 256

pub number_small : (width : ℕ) (b : ℕ → ℕ) (at : ℕ) → ((i : ℕ) → b i < 256) → number width b at < top width
unfolding number
number_small zero b at small = omega arith
number_small (suc width) b at small = omega (arith, small at, number_small width b (suc at) small)

-- ---- a number stored over itself

-- its digits are the bytes that it was read from
number_digits : (width : ℕ) (b : ℕ → ℕ) (at k : ℕ) → ((i : ℕ) → b i < 256) → k < width → get_or (digits width (number width b at)) k 0 ≡ b (at + k)
unfolding digits number
number_digits zero b at k small h = absurd (omega arith)
number_digits (suc width) b at zero small h = let z : at + 0 ≡ at = omega arith in rw z (omega (arith, small at))
number_digits (suc width) b at (suc k) small h =
    let z : at + suc k ≡ suc at + k = omega arith in
    let e : (b at + 256 * number width b (suc at)) / 256 ≡ number width b (suc at) = omega (arith, small at) in
    rw (z, e) (number_digits width b (suc at) k small (omega arith))

-- so storing it changes nothing
pub digits-over : (width : ℕ) (l : List ℕ) (at : ℕ) → at + width ≤ length l → ((i : ℕ) → bytes l i < 256) → splice l at (digits width (number width (bytes l) at)) ≡ l
digits-over width l at h small = ext_get_or 0 (splice l at ds) l (length-splice l at ds) (λ i k. go i (dec_lt i at) (dec_lt i (at + width)))
  where
    ds : List ℕ
    ds = digits width (number width (bytes l) at)

    go : (i : ℕ) → Dec (i < at) → Dec (i < at + width) → get_or (splice l at ds) i 0 ≡ get_or l i 0
    go i (yes p) q = get_or-splice_below l at ds i p
    go i (no p) (yes q) =
        let z : at + (i - at) ≡ i = omega arith in
        let n = length_digits width (number width (bytes l) at) in
        rw (← z) (get_or-splice_in l at ds (i - at) (omega (arith, n)) (omega (arith, n)) ∙ number_digits width (bytes l) at (i - at) small (omega arith))
    go i (no p) (no q) = get_or-splice_past l at ds i (omega (arith, length_digits width (number width (bytes l) at)))

-- AKAII (document 01, "The disk"): 0 to 9 for the digits, 10 for space, 11 to 36 for A to Z, 37 to 40 for # + - . in this order; from ASCII a to z are taken as
-- A to Z (document 02, request two), and no other byte has an image. There and back is the code, or the byte's capital: the checker computes a test over every byte
-- that can have an image. Assumes nothing.
use Rattle.std.specs.Prelude.{Option, Some, None, is_some, unwrap_or, ◌≡◌, refl, Bool, true, false, ◌⊎◌, ℕ, ◌+◌, ◌-◌, ◌≤◌, ◌<◌, eqb}
use Rattle.std.proofs.Common.{sym, ap, ◌∙◌, true≢false, inl, inr, arith, eqb-true, ne_eqb}
use Rattle.std.proofs.Math.Decide.{dec_lt}
use Rattle.laws.specs.Lemmas.Truth.{within_in, within_below, within_above, both_true}
use Rattle.laws.specs.Truth.{pick, both, within}
use Rattle.laws.specs.Scan.{all}
use Rattle.laws.specs.Lemmas.Scan.{all→}

-- A byte's image in the other code, or that it has none.
abbrev pub Converted : Type 0
Converted = Option ℕ

-- The AKAII code of an ASCII byte.
unfoldable pub akaii_of : ℕ → Converted
akaii_of a =
    pick (within 48 57 a) (Some (a - 48))
    (pick (within 65 90 a) (Some (a - 54))
    (pick (within 97 122 a) (Some (a - 86))
    (pick (eqb a 32) (Some 10)
    (pick (eqb a 35) (Some 37)
    (pick (eqb a 43) (Some 38)
    (pick (eqb a 45) (Some 39)
    (pick (eqb a 46) (Some 40)
    None)))))))

-- The capital of a small letter; any other byte is its own.
unfoldable pub capital : ℕ → ℕ
capital a = pick (within 97 122 a) (a - 32) a

-- The ASCII byte of an AKAII code.
unfoldable pub ascii_of : ℕ → Converted
ascii_of c =
    pick (within 0 9 c) (Some (c + 48))
    (pick (within 11 36 c) (Some (c + 54))
    (pick (eqb c 10) (Some 32)
    (pick (eqb c 37) (Some 35)
    (pick (eqb c 38) (Some 43)
    (pick (eqb c 39) (Some 45)
    (pick (eqb c 40) (Some 46)
    None))))))

abbrev pub has_image : Converted → Bool
has_image = is_some

-- the image, 0 where there is none
abbrev pub image_of : Converted → ℕ
image_of image = unwrap_or image 0

-- ---- bytes that have no image

-- b is none of five signs
abbrev pub Unlike : ℕ → ℕ → ℕ → ℕ → ℕ → ℕ → Type 0
Unlike b p q r s t = ((((Unit {0} × (b ≡ p → ⊥)) × (b ≡ q → ⊥)) × (b ≡ r → ⊥)) × (b ≡ s → ⊥)) × (b ≡ t → ⊥)

no_sign : (b p q r s t : ℕ) (v w x y z : Converted) → Unlike b p q r s t
    → pick (eqb b p) v (pick (eqb b q) w (pick (eqb b r) x (pick (eqb b s) y (pick (eqb b t) z None)))) ≡ None
no_sign b p q r s t v w x y z n =
    rw (ne_eqb b p n.0.0.0.0.1, ne_eqb b q n.0.0.0.1, ne_eqb b r n.0.0.1, ne_eqb b s n.0.1, ne_eqb b t n.1) refl

-- neither in a range nor a sign
pub akaii_other : (a : ℕ) → within 48 57 a ≡ false → within 65 90 a ≡ false → within 97 122 a ≡ false → Unlike a 32 35 43 45 46 → akaii_of a ≡ None
unfolding akaii_of
akaii_other a p q r n = rw (p, q, r) (no_sign a 32 35 43 45 46 (Some 10) (Some 37) (Some 38) (Some 39) (Some 40) n)

pub ascii-other : (c : ℕ) → within 0 9 c ≡ false → within 11 36 c ≡ false → Unlike c 10 37 38 39 40 → ascii_of c ≡ None
unfolding ascii_of
ascii-other c p q n = rw (p, q) (no_sign c 10 37 38 39 40 (Some 32) (Some 35) (Some 43) (Some 45) (Some 46) n)

-- above the letters nothing is AKAII, and above 40 nothing is a code
pub akaii_none : (a : ℕ) → 122 < a → akaii_of a ≡ None
akaii_none a h =
    akaii_other a (within_above 48 57 a (omega arith)) (within_above 65 90 a (omega arith)) (within_above 97 122 a h)
    (((((tt, λ e. omega arith), λ e. omega arith), λ e. omega arith), λ e. omega arith), λ e. omega arith)

pub ascii_none : (c : ℕ) → 40 < c → ascii_of c ≡ None
ascii_none c h =
    ascii-other c (within_above 0 9 c (omega arith)) (within_above 11 36 c (omega arith))
    (((((tt, λ e. omega arith), λ e. omega arith), λ e. omega arith), λ e. omega arith), λ e. omega arith)

-- ---- there and back

-- where there is an image, its own image is x
abbrev back_test : (ℕ → Converted) → Converted → ℕ → Bool
back_test back (Some y) x = both (has_image (back y)) (eqb (image_of (back y)) x)
back_test back None x = true

akaii_test : all (λ a. back_test ascii_of (akaii_of a) (capital a)) 0 123 ≡ true
unfolding all akaii_of ascii_of capital
akaii_test = refl

-- every code has an image besides
ascii-test : all (λ c. both (has_image (ascii_of c)) (back_test akaii_of (ascii_of c) c)) 0 41 ≡ true
unfolding all akaii_of ascii_of
ascii-test = refl

is_byte : (w : Converted) (x : ℕ) → both (has_image w) (eqb (image_of w) x) ≡ true → w ≡ Some x
is_byte (Some b) x e = ap Some (eqb-true b x e)
is_byte None x e = absurd (true≢false (sym e))

tested : (back : ℕ → Converted) (w : Converted) (x y : ℕ) → w ≡ Some y → back_test back w x ≡ true → back y ≡ Some x
tested back w x y e t = is_byte (back y) x (rw e at t)

never : {A : Type 0} (w : Converted) (y : ℕ) → w ≡ None → w ≡ Some y → A
never w y p q = absurd (let z : ◌≡◌ {A = ℕ} 0 1 = cc in omega arith)

-- The byte of an ASCII byte's code is its capital.
pub akaii_back : (a c : ℕ) → akaii_of a ≡ Some c → ascii_of c ≡ Some (capital a)
akaii_back a c e = go (dec_lt a 123)
  where
    go : Dec (a < 123) → ascii_of c ≡ Some (capital a)
    go (yes h) = tested ascii_of (akaii_of a) (capital a) c e (all→ (λ x. back_test ascii_of (akaii_of x) (capital x)) 0 123 akaii_test a (omega arith) (omega arith))
    go (no h) = never (akaii_of a) c (akaii_none a (omega arith)) e

code_tests : (c : ℕ) → c ≤ 40 → (has_image (ascii_of c) ≡ true) × (back_test akaii_of (ascii_of c) c ≡ true)
code_tests c h =
    both_true (has_image (ascii_of c)) (back_test akaii_of (ascii_of c) c)
    (all→ (λ x. both (has_image (ascii_of x)) (back_test akaii_of (ascii_of x) x)) 0 41 ascii-test c (omega arith) (omega arith))

-- A code's ASCII byte has that code.
pub ascii_back : (c a : ℕ) → ascii_of c ≡ Some a → akaii_of a ≡ Some c
ascii_back c a e = go (dec_lt c 41)
  where
    go : Dec (c < 41) → akaii_of a ≡ Some c
    go (yes h) = tested akaii_of (ascii_of c) c a e (code_tests c (omega arith)).1
    go (no h) = never (ascii_of c) a (ascii_none c (omega arith)) e

-- The codes that have an image are 0 to 40.
pub ascii_some : (c : ℕ) → c ≤ 40 → has_image (ascii_of c) ≡ true
ascii_some c h = (code_tests c h).0

-- an ASCII byte's code is one of them
pub code_most : (a c : ℕ) → akaii_of a ≡ Some c → c ≤ 40
code_most a c e = go (dec_lt c 41)
  where
    go : Dec (c < 41) → c ≤ 40
    go (yes h) = omega arith
    go (no h) = never (ascii_of c) (capital a) (ascii_none c (omega arith)) (akaii_back a c e)

-- ---- capitals

-- a small letter, or its own capital
small_or_own : (a : ℕ) → ((97 ≤ a) × (a ≤ 122)) ⊎ (capital a ≡ a)
unfolding capital
small_or_own a = go (dec_lt a 97) (dec_lt 122 a)
  where
    go : Dec (a < 97) → Dec (122 < a) → ((97 ≤ a) × (a ≤ 122)) ⊎ (capital a ≡ a)
    go (yes h) d = inr (rw (within_below 97 122 a h) refl)
    go (no h) (yes k) = inr (rw (within_above 97 122 a k) refl)
    go (no h) (no k) = inl (omega arith, omega arith)

small_capital : (a : ℕ) → 97 ≤ a → a ≤ 122 → capital a ≡ a - 32
unfolding capital
small_capital a p q = rw (within_in 97 122 a p q) refl

small_code : (a : ℕ) → 97 ≤ a → a ≤ 122 → akaii_of a ≡ Some (a - 86)
unfolding akaii_of
small_code a p q = rw (within_above 48 57 a (omega arith), within_above 65 90 a (omega arith), within_in 97 122 a p q) refl

-- A byte and its capital have the same code.
pub akaii_capital : (a : ℕ) → akaii_of (capital a) ≡ akaii_of a
akaii_capital a = go (small_or_own a)
  where
    go : ((97 ≤ a) × (a ≤ 122)) ⊎ (capital a ≡ a) → akaii_of (capital a) ≡ akaii_of a
    go (inl h) = let e = small_code a h.0 h.1 in ascii_back (a - 86) (capital a) (akaii_back a (a - 86) e) ∙ sym e
    go (inr e) = ap akaii_of e

low_own : (b : ℕ) → b < 97 → capital b ≡ b
unfolding capital
low_own b p = rw (within_below 97 122 b p) refl

-- A capital is its own.
pub capital_twice : (a : ℕ) → capital (capital a) ≡ capital a
capital_twice a = go (small_or_own a)
  where
    go : ((97 ≤ a) × (a ≤ 122)) ⊎ (capital a ≡ a) → capital (capital a) ≡ capital a
    go (inl h) = ap capital (small_capital a h.0 h.1) ∙ low_own (a - 32) (omega (arith, h.0, h.1)) ∙ sym (small_capital a h.0 h.1)
    go (inr e) = ap capital e

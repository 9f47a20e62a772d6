-- An entry reads only its 24 bytes, shows zeros and its identity once erased, and reads back once written.
-- Bytes inside and outside a write by the splice laws, numbers by the law over their width. Assumes nothing.
use Rattle.std.specs.Prelude.{◌≡◌, List, ◌∷◌, ◌++◌, ℕ, zero, suc, ◌+◌, ◌≤◌, ◌<◌, length, get_or}
use Rattle.std.proofs.Math.Path.{refl, sym, ap}
use Rattle.std.proofs.Common.{◌∙◌, inr, add-zero, add_assoc, arith, length-append, get_or-append-add}
use Rattle.std.proofs.Math.ListN.{replicate, get_or-append}
use Rattle.laws.specs.Splice.{splice}
use Rattle.laws.specs.Lemmas.Splice.{get_or-splice_in}
use Rattle.laws.specs.Lemmas.Padded.{get_or_zeros}
use Rattle.laws.specs.Reader.{bytes, tab}
use Rattle.laws.specs.Lemmas.Reader.{Agree, length-tab, tab_is, tab_cong, splice_off}
use Rattle.blocks.specs.Numbers.{digits}
use Rattle.blocks.specs.Lemmas.Numbers.{length_digits, number_cong, number_is}
use Rattle.view.specs.Disk.{Entry}
use Rattle.image.specs.Image.{entry_at, erased, erase_entry, entry_bytes, set_entry}

pub entry_cong : (b c : ℕ → ℕ) (at : ℕ) → Agree at 24 b c → entry_at c at ≡ entry_at b at
unfolding entry_at
entry_cong b c at h =
    rw (
      tab_cong b c at 16 (λ i p q. h i p (omega arith)),
      h (at + 16) (omega arith) (omega arith),
      number_cong 3 b c (at + 17) (λ i p q. h i (omega arith) (omega arith)),
      number_cong 2 b c (at + 20) (λ i p q. h i (omega arith) (omega arith)),
      number_cong 2 b c (at + 22) (λ i p q. h i (omega arith) (omega arith)),
    ) refl

pub length-area : (b : ℕ → ℕ) (at : ℕ) → length (entry_at b at).area ≡ 16
unfolding entry_at
length-area b at = length-tab b at 16

-- zeros are the digits of 0
zero_digit : (width k : ℕ) → ◌≡◌ {A = ℕ} (get_or (digits width 0) k 0) 0
unfolding digits
zero_digit zero k = refl
zero_digit (suc width) zero = refl
zero_digit (suc width) (suc k) = zero_digit width k

module _ (img : List ℕ) (at : ℕ) (fits : at + 22 ≤ length img) where
  cleared : (a k : ℕ) → a + k < 22 → bytes (erase_entry img at) (at + a + k) ≡ 0
  unfolding erase_entry
  cleared a k h = ap (bytes (splice img at (replicate 22 0))) (add_assoc at a k) ∙ get_or-splice_in img at (replicate 22 0) (a + k) fits h ∙ get_or_zeros 22 (a + k)

  -- an erased slot shows zeros and its identity
  pub erased-entry : entry_at (bytes (erase_entry img at)) at ≡ erased (entry_at (bytes img) at)
  unfolding entry_at
  erased-entry =
      let out = bytes (erase_entry img at) in
      let area : tab out at 16 ≡ replicate 16 0 = tab_is out at (replicate 16 0) (λ k p. ap (λ (x : ℕ). out (x + k)) (sym (add-zero at)) ∙ cleared 0 k (omega arith) ∙ sym (get_or_zeros 16 k)) in
      let type : out (at + 16) ≡ 0 = ap out (sym (add-zero (at + 16))) ∙ cleared 16 0 (omega arith) in
      rw (
        area,
        type,
        number_is 3 out (at + 17) 0 (omega arith) (λ k p. cleared 17 k (omega arith) ∙ sym (zero_digit 3 k)),
        number_is 2 out (at + 20) 0 (omega arith) (λ k p. cleared 20 k (omega arith) ∙ sym (zero_digit 2 k)),
        number_cong 2 (bytes img) out (at + 22) (λ i p q. unfold erase_entry in splice_off img at (replicate 22 0) i (inr p)),
      ) refl

module _ (e : Entry) (area : length e.area ≡ 16) where
  pub length-entry : length (entry_bytes e) ≡ 24
  length-entry = simp (length-append, length_digits) (omega arith)

  module _ (img : List ℕ) (at : ℕ) (fits : at + 24 ≤ length img) where
    byte : (k : ℕ) → k < 24 → bytes (set_entry img at e) (at + k) ≡ get_or (entry_bytes e) k 0
    unfolding set_entry
    byte k h = get_or-splice_in img at (entry_bytes e) k (omega (arith, length-entry)) (omega (arith, length-entry))

    name_byte : (k : ℕ) → k < length e.area → bytes (set_entry img at e) (at + k) ≡ get_or e.area k 0
    name_byte k h = byte k (omega arith) ∙ get_or-append e.area _ 0 k h

    tail_byte : (k : ℕ) → k < 8 → bytes (set_entry img at e) (at + (16 + k)) ≡ get_or (e.type ∷ digits 3 e.size ++ (digits 2 e.start ++ digits 2 e.identity)) k 0
    tail_byte k h = byte (16 + k) (omega arith) ∙ ap (λ (n : ℕ). get_or (entry_bytes e) (n + k) 0) (sym area) ∙ get_or-append-add e.area _ k 0

    size_byte : (k : ℕ) → k < 3 → bytes (set_entry img at e) (at + 17 + k) ≡ get_or (digits 3 e.size) k 0
    size_byte k h =
        let z : at + 17 + k ≡ at + (16 + suc k) = omega arith in
        ap (bytes (set_entry img at e)) z ∙ tail_byte (suc k) (omega arith) ∙ get_or-append (digits 3 e.size) _ 0 k (omega (arith, length_digits 3 e.size))

    -- the bytes past the length
    last_byte : (k : ℕ) → k < 4 → bytes (set_entry img at e) (at + 20 + k) ≡ get_or (digits 2 e.start ++ digits 2 e.identity) k 0
    last_byte k h =
        let z : at + 20 + k ≡ at + (16 + suc (3 + k)) = omega arith in
        let rest = digits 2 e.start ++ digits 2 e.identity in
        ap (bytes (set_entry img at e)) z
        ∙ tail_byte (suc (3 + k)) (omega arith)
        ∙ ap (λ (n : ℕ). get_or (digits 3 e.size ++ rest) (n + k) 0) (sym (length_digits 3 e.size))
        ∙ get_or-append-add (digits 3 e.size) rest k 0

    start_byte : (k : ℕ) → k < 2 → bytes (set_entry img at e) (at + 20 + k) ≡ get_or (digits 2 e.start) k 0
    start_byte k h = last_byte k (omega arith) ∙ get_or-append (digits 2 e.start) _ 0 k (omega (arith, length_digits 2 e.start))

    pub identity_byte : (k : ℕ) → k < 2 → bytes (set_entry img at e) (at + 22 + k) ≡ get_or (digits 2 e.identity) k 0
    identity_byte k h =
        let z : at + 22 + k ≡ at + 20 + (2 + k) = omega arith in
        ap (bytes (set_entry img at e)) z
        ∙ last_byte (2 + k) (omega arith)
        ∙ ap (λ (n : ℕ). get_or (digits 2 e.start ++ digits 2 e.identity) (n + k) 0) (sym (length_digits 2 e.start))
        ∙ get_or-append-add (digits 2 e.start) (digits 2 e.identity) k 0

    pub entry-same : e.size < 16777216 → e.start < 65536 → e.identity < 65536 → entry_at (bytes (set_entry img at e)) at ≡ e
    unfolding entry_at
    entry-same size start own =
        let n : tab (bytes (set_entry img at e)) at 16 ≡ e.area = ap (tab (bytes (set_entry img at e)) at) (sym area) ∙ tab_is (bytes (set_entry img at e)) at e.area name_byte in
        rw (
          n,
          tail_byte 0 (omega arith),
          number_is 3 (bytes (set_entry img at e)) (at + 17) e.size size size_byte,
          number_is 2 (bytes (set_entry img at e)) (at + 20) e.start start start_byte,
          number_is 2 (bytes (set_entry img at e)) (at + 22) e.identity own identity_byte,
        ) refl

-- A legal name comes back from its area in capitals, a legal area from its name, and each is legal where the other is; a name and its capitals are one name.
-- Some by byte, from AKAII's laws where the layout's names are AKAII. Assumes nothing.
use Rattle.std.specs.Prelude.{Some, None, ◌≡◌, Bool, ℕ, zero, suc, ◌+◌, ◌-◌, ◌≤◌, ◌<◌, length, take, drop, get_or, replicate, leb, eqb}
use Rattle.std.proofs.Math.Path.{refl}
use Rattle.std.proofs.Common.{sym, ap, ◌∙◌, true≢false, arith, take-append-drop, length-take-le}
use Rattle.std.proofs.Math.Bool.{true, false}
use mathlib.Core.List.{List, [], ◌∷◌, map}
use Rattle.std.proofs.Math.Decide.{dec_lt}
use Rattle.std.proofs.Math.ListN.{length-map, length-append}
use Rattle.std.proofs.lemmas.List.{length-replicate}
use borrow.Author.Tests.{eqb-true, eq-eqb, leb-true}
use Rattle.laws.specs.Lemmas.Truth.{both_true, true_both, within_in, within_above}
use Rattle.laws.specs.Truth.{within}
use Rattle.laws.specs.Lists.{all_of, same}
use Rattle.laws.specs.Lemmas.Lists.{same_true}
use Rattle.layout.specs.declared.Layout.{Layout}
use Rattle.layout.specs.Layouts.{s900, s1000}
use Rattle.layout.specs.Right.{LayoutRight}
use Rattle.names.specs.Akaii.{Converted, akaii_of, ascii_of, has_image, image_of, ascii_back, ascii_none, ascii_some}
use Rattle.names.specs.Names.{stored_byte, akaii_byte, ascii_byte, given_byte, to_disk, to_ascii, kept_byte, capitals, padding, legal_name, area_of, legal_area, name_of}

-- ---- one byte

-- a byte of names is the same in a sampler's files and on its disks
pub stored_s900 : (blocks first a : ℕ) → stored_byte (s900 blocks first) a ≡ ascii_byte a
unfolding stored_byte ascii_byte
stored_s900 blocks first a = refl

pub akaii_within : (c : ℕ) → within 0 40 c ≡ akaii_byte c
unfolding akaii_byte
akaii_within c = go (dec_lt 40 c)
  where
    go : Dec (40 < c) → within 0 40 c ≡ has_image (ascii_of c)
    go (yes h) = within_above 0 40 c h ∙ sym (ap has_image (ascii_none c h))
    go (no h) = within_in 0 40 c (omega arith) (omega arith) ∙ sym (ascii_some c (omega arith))

pub stored_s1000 : (blocks first c : ℕ) → stored_byte (s1000 blocks first) c ≡ akaii_byte c
unfolding stored_byte
stored_s1000 blocks first c = akaii_within c

pub image_byte : (w : Converted) → has_image w ≡ true → w ≡ Some (image_of w)
image_byte (Some b) e = refl
image_byte None e = absurd (true≢false (sym e))

-- a byte's image is a legal byte on the disk, and its image is the byte kept
pub record ToDisk (l : Layout) (a : ℕ) : Type 0 where
  pub legal : stored_byte l (to_disk l a) ≡ true
  pub back : to_ascii l (to_disk l a) ≡ kept_byte l a

pub record ToAscii (l : Layout) (c : ℕ) : Type 0 where
  pub legal : given_byte l (to_ascii l c) ≡ true
  pub back : to_disk l (to_ascii l c) ≡ c

module _ (l : Layout) (right : LayoutRight l) where
  to_ascii_by : (t : Bool) → l.akaii ≡ t → (c : ℕ) → stored_byte l c ≡ true → ToAscii l c
  unfolding given_byte to_disk to_ascii stored_byte
  to_ascii_by true t c h =
      let codes = right.akaii_codes t in
      let most : c ≤ l.high = leb-true c l.high (both_true (leb l.low c) (leb c l.high) h).1 in
      let e : ascii_of c ≡ Some (image_of (ascii_of c)) = image_byte (ascii_of c) (ascii_some c (omega (arith, codes.1))) in
      let k : akaii_of (image_of (ascii_of c)) ≡ Some c = ascii_back c (image_of (ascii_of c)) e in
      record { legal = rw t (ap has_image k); back = rw t (ap image_of k) }
  to_ascii_by false t c h = record { legal = rw t h; back = rw t refl }

  pub to_ascii_is : (c : ℕ) → stored_byte l c ≡ true → ToAscii l c
  to_ascii_is = to_ascii_by l.akaii refl

-- ---- all bytes

-- bytes that pass f have images that pass g, and these images' images are the bytes kept
module _ (f g : ℕ → Bool) (there back kept : ℕ → ℕ) where
  pub all_there : ((a : ℕ) → f a ≡ true → g (there a) ≡ true) → (xs : List ℕ) → all_of f xs ≡ true → all_of g (map there xs) ≡ true
  unfolding all_of
  all_there h [] e = refl
  all_there h (a ∷ xs) e =
      let p = both_true (f a) (all_of f xs) e in true_both (g (there a)) (all_of g (map there xs)) (h a p.0) (all_there h xs p.1)

  pub all_back : ((a : ℕ) → f a ≡ true → back (there a) ≡ kept a) → (xs : List ℕ) → all_of f xs ≡ true → map back (map there xs) ≡ map kept xs
  unfolding all_of
  all_back h [] e = refl
  all_back h (a ∷ xs) e = let p = both_true (f a) (all_of f xs) e in rw (h a p.0, all_back h xs p.1) refl

-- images one after the other
map_own : (f : ℕ → ℕ) → ((a : ℕ) → f a ≡ a) → (xs : List ℕ) → map f xs ≡ xs
map_own f h [] = refl
map_own f h (a ∷ xs) = rw (h a, map_own f h xs) refl

-- one of the images
pub get_or_map : (f : ℕ → ℕ) (xs : List ℕ) (i : ℕ) → i < length xs → get_or (map f xs) i 0 ≡ f (get_or xs i 0)
get_or_map f [] i h = absurd (omega arith)
get_or_map f (x ∷ xs) zero h = refl
get_or_map f (x ∷ xs) (suc i) h = get_or_map f xs i (omega arith)

-- ---- capitals

module _ (l : Layout) where
  -- Names that aren't AKAII are kept as they are given.
  pub capitals_own : l.akaii ≡ false → (name : List ℕ) → capitals l name ≡ name
  unfolding capitals kept_byte
  capitals_own t = map_own (kept_byte l) (λ a. rw t refl)

-- ---- names and areas

pub length-padding : (l : Layout) → LayoutRight l → l.letters + length (padding l) ≡ 16
unfolding padding
length-padding l right =
    let few = right.letters_few in
    ap (λ (n : ℕ). l.letters + n) (length-append (replicate (15 - l.letters) l.pad) (l.last ∷ []))
    ∙ omega (arith, length-replicate {A = ℕ} (15 - l.letters) l.pad)

module _ (l : Layout) (right : LayoutRight l) where
  -- the parts of a legal name
  pub name-length : (name : List ℕ) → legal_name l name ≡ true → length name ≡ l.letters
  unfolding legal_name
  name-length name h = eqb-true (length name) l.letters (both_true (eqb (length name) l.letters) (all_of (given_byte l) name) h).0

  module _ (name : List ℕ) (legal : legal_name l name ≡ true) where
    pub length-area : length (area_of l name) ≡ 16
    unfolding area_of
    length-area =
        length-append (map (to_disk l) name) (padding l) ∙ omega (arith, length-map name (to_disk l), name-length name legal, length-padding l right)

  -- a name's bytes in its area
  pub length_front : (area : List ℕ) → length area ≡ 16 → length (take l.letters area) ≡ l.letters
  length_front area n = length-take-le l.letters area (omega (arith, right.letters_few))

  pub length-name : (area : List ℕ) → length area ≡ 16 → length (name_of l area) ≡ l.letters
  unfolding name_of
  length-name area n = length-map (take l.letters area) (to_ascii l) ∙ length_front area n

  module _ (area : List ℕ) (legal : legal_area l area ≡ true) where
    stored : (all_of (stored_byte l) (take l.letters area) ≡ true) × (drop l.letters area ≡ padding l)
    unfolding legal_area
    stored =
        let p = both_true (all_of (stored_byte l) (take l.letters area)) (same (drop l.letters area) (padding l)) legal in
        (p.0, same_true (drop l.letters area) (padding l) p.1)

    -- a legal area is its name's
    pub area_back : area_of l (name_of l area) ≡ area
    unfolding area_of name_of
    area_back =
        rw (all_back (stored_byte l) (given_byte l) (to_ascii l) (to_disk l) (λ c. c) (λ c h. (to_ascii_is l right c h).back) (take l.letters area) stored.0, map_own (λ c. c) (λ c. refl) (take l.letters area), ← stored.1)
        (take-append-drop l.letters area)

    -- and its name is legal
    pub name-legal : length area ≡ 16 → legal_name l (name_of l area) ≡ true
    unfolding legal_name name_of
    name-legal n =
        true_both (eqb (length (map (to_ascii l) (take l.letters area))) l.letters) (all_of (given_byte l) (map (to_ascii l) (take l.letters area)))
        (eq-eqb (length (map (to_ascii l) (take l.letters area))) l.letters (length-name area n))
        (all_there (stored_byte l) (given_byte l) (to_ascii l) (to_disk l) (λ c. c) (λ c h. (to_ascii_is l right c h).legal) (take l.letters area) stored.0)

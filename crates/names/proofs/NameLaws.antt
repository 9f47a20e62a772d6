-- A legal name comes back from its area in capitals, a legal area from its name, and each is legal where the other is; a name and its capitals are one name.
-- Some by byte, from AKAII's laws where the layout's names are AKAII. Assumes nothing.
use Rattle.std.specs.Prelude.{Some, ◌≡◌, Bool, ℕ, ◌≤◌, length, take, drop, leb, eqb}
use Rattle.std.proofs.Math.Path.{refl}
use Rattle.std.proofs.Common.{sym, ap, ◌∙◌, arith}
use Rattle.std.proofs.Math.Bool.{true, false}
use mathlib.Core.List.{List, [], ◌∷◌, map}
use Rattle.std.proofs.Math.ListN.{length-map}
use Rattle.std.proofs.Math.Seq.{take_at, drop_at}
use borrow.Author.Tests.{le-leb}
use Rattle.laws.specs.Lemmas.Truth.{both_true, true_both}
use Rattle.laws.specs.Lists.{all_of, same}
use Rattle.laws.specs.Lemmas.Lists.{same_refl}
use Rattle.layout.specs.declared.Layout.{Layout}
use Rattle.layout.specs.Right.{LayoutRight}
use Rattle.names.specs.Akaii.{akaii_of, has_image, image_of, capital, akaii_back, code_most, akaii_capital, capital_twice}
use Rattle.names.specs.Names.{stored_byte, given_byte, to_disk, to_ascii, kept_byte, capitals, padding, legal_name, area_of, legal_area, name_of}
use Rattle.names.specs.NameLaws.{image_byte, ToDisk, all_there, all_back, name-length, area_back, name-legal}

-- ---- one byte

module _ (l : Layout) (right : LayoutRight l) where
  to_disk_by : (t : Bool) → l.akaii ≡ t → (a : ℕ) → given_byte l a ≡ true → ToDisk l a
  unfolding given_byte to_disk to_ascii stored_byte kept_byte
  to_disk_by true t a h =
      let e : akaii_of a ≡ Some (image_of (akaii_of a)) = image_byte (akaii_of a) (rw t at h) in
      let codes = right.akaii_codes t in
      let c = image_of (akaii_of a) in
      let most : c ≤ 40 = code_most a c e in
      record {
        legal = rw t (true_both (leb l.low c) (leb c l.high) (le-leb l.low c (omega (arith, codes.0))) (le-leb c l.high (omega (arith, codes.1))));
        back = rw t (ap image_of (akaii_back a c e));
      }
  to_disk_by false t a h = record { legal = rw t (rw t at h); back = rw t refl }

  pub to_disk_is : (a : ℕ) → given_byte l a ≡ true → ToDisk l a
  to_disk_is = to_disk_by l.akaii refl

-- ---- all bytes

map-map : (f g k : ℕ → ℕ) → ((a : ℕ) → f (g a) ≡ k a) → (xs : List ℕ) → map f (map g xs) ≡ map k xs
map-map f g k h [] = refl
map-map f g k h (a ∷ xs) = rw (h a, map-map f g k h xs) refl

all_map : (f : ℕ → Bool) (g : ℕ → ℕ) → ((a : ℕ) → f (g a) ≡ f a) → (xs : List ℕ) → all_of f (map g xs) ≡ all_of f xs
unfolding all_of
all_map f g h [] = refl
all_map f g h (a ∷ xs) = rw (h a, all_map f g h xs) refl

-- ---- capitals

module _ (l : Layout) where
  -- what is the same for a byte and its capital where names are AKAII is the same for a byte and the byte kept
  kept_same : {A : Type 0} (f : ℕ → A) (a : ℕ) → (l.akaii ≡ true → f (capital a) ≡ f a) → f (kept_byte l a) ≡ f a
  unfolding kept_byte
  kept_same f a h = go l.akaii refl
    where
      go : (t : Bool) → l.akaii ≡ t → f (kept_byte l a) ≡ f a
      go true t = rw t (h t)
      go false t = rw t refl

  kept_given : (a : ℕ) → given_byte l (kept_byte l a) ≡ given_byte l a
  unfolding given_byte
  kept_given a = kept_same (given_byte l) a (λ t. rw t (ap has_image (akaii_capital a)))

  kept_disk : (a : ℕ) → to_disk l (kept_byte l a) ≡ to_disk l a
  unfolding to_disk
  kept_disk a = kept_same (to_disk l) a (λ t. rw t (ap image_of (akaii_capital a)))

  kept_twice : (a : ℕ) → kept_byte l (kept_byte l a) ≡ kept_byte l a
  unfolding kept_byte
  kept_twice a = kept_same (kept_byte l) a (λ t. rw t (capital_twice a))

  -- Capitals are their own.
  pub capitals_twice : (name : List ℕ) → capitals l (capitals l name) ≡ capitals l name
  unfolding capitals
  capitals_twice = map-map (kept_byte l) (kept_byte l) (kept_byte l) kept_twice

  -- A name is legal exactly if its capitals are.
  pub capitals-legal : (name : List ℕ) → legal_name l (capitals l name) ≡ legal_name l name
  unfolding legal_name capitals
  capitals-legal name = rw (length-map name (kept_byte l), all_map (given_byte l) (kept_byte l) kept_given name) refl

  -- A name and its capitals have one area.
  pub capitals-area : (name : List ℕ) → area_of l (capitals l name) ≡ area_of l name
  unfolding area_of capitals
  capitals-area name = rw (map-map (to_disk l) (kept_byte l) (to_disk l) kept_disk name) refl

-- ---- names and areas

module _ (l : Layout) (right : LayoutRight l) where
  name-bytes : (name : List ℕ) → legal_name l name ≡ true → all_of (given_byte l) name ≡ true
  unfolding legal_name
  name-bytes name h = (both_true (eqb (length name) l.letters) (all_of (given_byte l) name) h).1

  module _ (name : List ℕ) (legal : legal_name l name ≡ true) where
    front : take l.letters (area_of l name) ≡ map (to_disk l) name
    unfolding area_of
    front = take_at (map (to_disk l) name) (padding l) l.letters (length-map name (to_disk l) ∙ name-length l right name legal)

    rest : drop l.letters (area_of l name) ≡ padding l
    unfolding area_of
    rest = drop_at (map (to_disk l) name) (padding l) l.letters (length-map name (to_disk l) ∙ name-length l right name legal)

    -- a legal name's area is legal
    pub area-legal : legal_area l (area_of l name) ≡ true
    unfolding legal_area
    area-legal =
        rw (front, rest)
        (true_both (all_of (stored_byte l) (map (to_disk l) name)) (same (padding l) (padding l))
        (all_there (given_byte l) (stored_byte l) (to_disk l) (to_ascii l) (kept_byte l) (λ a h. (to_disk_is l right a h).legal) name (name-bytes name legal)) (same_refl (padding l)))

    -- and holds the name in capitals
    pub name_back : name_of l (area_of l name) ≡ capitals l name
    unfolding name_of capitals
    name_back = rw front (all_back (given_byte l) (stored_byte l) (to_disk l) (to_ascii l) (kept_byte l) (λ a h. (to_disk_is l right a h).back) name (name-bytes name legal))

  module _ (area : List ℕ) (legal : legal_area l area ≡ true) where
    -- and is in capitals
    pub name-capitals : length area ≡ 16 → capitals l (name_of l area) ≡ name_of l area
    name-capitals n = sym (name_back (name_of l area) (name-legal l right area legal n)) ∙ ap (name_of l) (area_back l right area legal)

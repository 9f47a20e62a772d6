-- Loops that set one map value at the blocks of a range that pass a test, counting them; and one that erases the slots that are dropped.
-- What the rest of the loop makes is what the whole loop makes; the blocks ahead still hold what they held. Assumes nothing.
use Rattle.std.specs.Prelude.{◌≡◌, refl, Bool, not, ℕ, ◌+◌, ◌-◌, ◌≤◌, ◌<◌, eqb, get_or, replicate}
use Rattle.std.proofs.Math.Path.{sym, ap}
use Rattle.std.proofs.Common.{◌∙◌, arith, eqb-true, eq-eqb}
use Rattle.std.proofs.Math.Bool.{true, false}
use mir.Val.{bool_byte}
use mathlib.Core.List.{List}
use Rattle.std.proofs.Math.ListN.{length}
use Rattle.laws.specs.Truth.{pick, both}
use Rattle.laws.specs.Lemmas.Truth.{false_both}
use Rattle.laws.specs.Scan.{count, those}
use Rattle.laws.specs.Lemmas.Scan.{count_end, count_stop, count-on, count_split, those_end, those_stop, those-on}
use Rattle.laws.specs.Lemmas.Splice.{length-splice}
use Rattle.laws.specs.Reader.{bytes}
use Rattle.layout.specs.declared.Layout.{Layout}
use Rattle.layout.specs.Layouts.{slot_offset, map_offset}
use Rattle.map.specs.Map.{map_at, set_map, set_all}
use Rattle.map.specs.Lemmas.Linking.{length-set-map, map_other, set_same}
use Rattle.image.specs.Image.{erase_entry}
use Rattle.salvage.specs.Salvage.{erase_slots}
use Rattle.mend.specs.Steps.{is_dropped, is_lost}

-- ---- map values

-- After the blocks below i of a range from a to n.
pub record Setting (f : ℕ → Bool) (value : ℕ) (img₀ img : List ℕ) (a i n changed : ℕ) : Type 0 where
  pub size : length img ≡ length img₀
  pub ahead : (b : ℕ) → i ≤ b → map_at (bytes img) b ≡ map_at (bytes img₀) b
  pub rest : set_all img (those f i (n - i)) value ≡ set_all img₀ (those f a (n - a)) value
  pub counted : changed + count f i (n - i) ≡ count f a (n - a)

module _ (f : ℕ → Bool) (value : ℕ) (img₀ : List ℕ) (a n : ℕ) where
  pub setting_start : Setting f value img₀ img₀ a a n 0
  setting_start = record { size = refl; ahead = λ b h. refl; rest = refl; counted = omega arith }

  module _ (img : List ℕ) (i changed : ℕ) (s : Setting f value img₀ img a i n changed) (h : i < n) where
    turn_by : (t : Bool) → f i ≡ t → {after : List ℕ} {r : ℕ} → after ≡ pick t (set_map img i value) img → r ≡ pick t 1 0 → Setting f value img₀ after a (i + 1) n (changed + r)
    unfolding set_all
    turn_by true e {after} {r} w c = record {
      size = ap length w ∙ length-set-map img i value ∙ s.size;
      ahead = λ b k. ap (λ (x : List ℕ). map_at (bytes x) b) w ∙ map_other img i value b (λ z. omega arith) ∙ s.ahead b (omega arith);
      rest = rw w (sym (ap (λ (bs : List ℕ). set_all img bs value) (those_stop f i n h e)) ∙ s.rest);
      counted = omega (arith, c, count_stop f i n h e, s.counted);
    }
    turn_by false e {after} {r} w c = record {
      size = ap length w ∙ s.size;
      ahead = λ b k. ap (λ (x : List ℕ). map_at (bytes x) b) w ∙ s.ahead b (omega arith);
      rest = rw w (sym (ap (λ (bs : List ℕ). set_all img bs value) (those-on f i n h e)) ∙ s.rest);
      counted = omega (arith, c, count-on f i n h e, s.counted);
    }

    pub setting_turn : {t : Bool} → t ≡ f i → {after : List ℕ} {r : ℕ} → after ≡ pick t (set_map img i value) img → r ≡ pick t 1 0 → Setting f value img₀ after a (i + 1) n (changed + r)
    setting_turn {t} e = turn_by t (sym e)

  module _ {img : List ℕ} {i changed : ℕ} (h : n ≤ i) (s : Setting f value img₀ img a i n changed) where
    pub setting_image : img ≡ set_all img₀ (those f a (n - a)) value
    unfolding set_all
    setting_image = sym (ap (λ (bs : List ℕ). set_all img bs value) (those_end f i n h)) ∙ s.rest

    pub setting_count : changed ≡ count f a (n - a)
    setting_count = omega (arith, count_end f i n h, s.counted)

  -- no more than the range has
  pub setting_few : {img : List ℕ} {i changed : ℕ} → Setting f value img₀ img a i n changed → changed ≤ n - a
  setting_few s = omega (arith, s.counted, count_split f a (n - a))

-- a turn where the block in hand is asked as it is by then: it still holds what it held
pub wrong_turn : {reserved a i n changed : ℕ} {img₀ img after : List ℕ} {r : ℕ} → Setting (λ b. not (eqb (map_at (bytes img₀) b) reserved)) reserved img₀ img a i n changed → i < n
    → after ≡ pick (not (eqb (map_at (bytes img) i) reserved)) (set_map img i reserved) img → r ≡ pick (not (eqb (map_at (bytes img) i) reserved)) 1 0
    → Setting (λ b. not (eqb (map_at (bytes img₀) b) reserved)) reserved img₀ after a (i + 1) n (changed + r)
wrong_turn {reserved} {i = i} s h = setting_turn _ _ _ _ _ _ _ _ s h (ap (λ (x : ℕ). not (eqb x reserved)) (s.ahead i (omega arith)))

pub lost_turn : (marks : List Bool) {a i n changed : ℕ} {img₀ img after : List ℕ} {r : ℕ} → Setting (is_lost (map_at (bytes img₀)) marks) 0 img₀ img a i n changed → i < n
    → after ≡ pick (is_lost (map_at (bytes img)) marks i) (set_map img i 0) img → r ≡ pick (is_lost (map_at (bytes img)) marks i) 1 0
    → Setting (is_lost (map_at (bytes img₀)) marks) 0 img₀ after a (i + 1) n (changed + r)
lost_turn marks {i = i} s h = setting_turn _ _ _ _ _ _ _ _ s h (ap (λ (x : ℕ). both (not (eqb x 0)) (not (get_or marks i false))) (s.ahead i (omega arith)))

-- a marked block stays, any other is freed unless it is free
pub lost_marked : (m : ℕ → ℕ) (marks : List Bool) (b : ℕ) → get_or marks b false ≡ true → is_lost m marks b ≡ false
lost_marked m marks b e = false_both (not (eqb (m b) 0)) (not (get_or marks b false)) (λ z. rw e refl)

pub lost_other : (m : ℕ → ℕ) (marks : List Bool) (b : ℕ) → get_or marks b false ≡ false → is_lost m marks b ≡ not (eqb (m b) 0)
lost_other m marks b e = go (not (eqb (m b) 0)) (not (get_or marks b false)) (ap not e)
  where
    go : (t u : Bool) → u ≡ true → both t u ≡ t
    go true u p = p
    go false u p = refl

-- a test as a number
pub told : (t : Bool) → bool_byte t ≡ pick t 1 0
told true = refl
told false = refl

-- a block's value stored again if it is marked, else 0
module _ (img : List ℕ) (marks : List Bool) (b : ℕ) (fits : map_offset b + 2 ≤ length img) (small : (i : ℕ) → bytes img i < 256)
    {value after r : ℕ} {out : List ℕ} (was : value ≡ map_at (bytes img) b) (is : after ≡ pick (get_or marks b false) value 0)
    (stored : out ≡ set_map img b after) (one : r ≡ pick (not (eqb value after)) 1 0) where
  abbrev Freed : Type 0
  Freed =
      (out ≡ pick (is_lost (map_at (bytes img)) marks b) (set_map img b 0) img) × (r ≡ pick (is_lost (map_at (bytes img)) marks b) 1 0)

  same : after ≡ map_at (bytes img) b → is_lost (map_at (bytes img)) marks b ≡ false → Freed
  same e n = rw n (stored ∙ ap (set_map img b) e ∙ set_same img b fits small, one ∙ rw (eq-eqb value after (was ∙ sym e)) refl)

  pub freed-value : Freed
  freed-value = by (get_or marks b false) refl (eqb (map_at (bytes img) b) 0) refl
    where
      by : (t : Bool) → get_or marks b false ≡ t → (u : Bool) → eqb (map_at (bytes img) b) 0 ≡ u → Freed
      by true p u q = same (is ∙ rw p was) (lost_marked (map_at (bytes img)) marks b p)
      by false p true q = same (is ∙ rw p (sym (eqb-true (map_at (bytes img) b) 0 q))) (lost_other (map_at (bytes img)) marks b p ∙ rw q refl)
      by false p false q =
          let z : after ≡ 0 = is ∙ rw p refl in
          let n : eqb value after ≡ false = ap (λ (x : ℕ). eqb value x) z ∙ ap (λ (x : ℕ). eqb x 0) was ∙ q in
          rw (lost_other (map_at (bytes img)) marks b p, q) (stored ∙ ap (set_map img b) z, one ∙ rw n refl)

-- ---- slots

pub record Erasing (l : Layout) (report img₀ img : List ℕ) (i n : ℕ) : Type 0 where
  pub size : length img ≡ length img₀
  pub rest : erase_slots l img (those (is_dropped report) i (n - i)) ≡ erase_slots l img₀ (those (is_dropped report) 0 n)

module _ (l : Layout) (report img₀ : List ℕ) (n : ℕ) where
  pub erasing_start : Erasing l report img₀ img₀ 0 n
  erasing_start = record { size = refl; rest = let z : n - 0 ≡ n = omega arith in rw z refl }

  module _ (img : List ℕ) (i : ℕ) (s : Erasing l report img₀ img i n) (h : i < n) where
    erase_by : (t : Bool) → is_dropped report i ≡ t → {after : List ℕ} → after ≡ pick t (erase_entry img (slot_offset l i)) img → Erasing l report img₀ after (i + 1) n
    unfolding erase_slots
    erase_by true e w = record {
      size = ap length w ∙ erased ∙ s.size;
      rest = rw w (sym (ap (erase_slots l img) (those_stop (is_dropped report) i n h e)) ∙ s.rest);
    }
      where
        erased : length (erase_entry img (slot_offset l i)) ≡ length img
        erased = unfold erase_entry in length-splice img (slot_offset l i) (replicate 22 0)
    erase_by false e w = record {
      size = ap length w ∙ s.size;
      rest = rw w (sym (ap (erase_slots l img) (those-on (is_dropped report) i n h e)) ∙ s.rest);
    }

    pub erasing_turn : {after : List ℕ} → after ≡ pick (is_dropped report i) (erase_entry img (slot_offset l i)) img → Erasing l report img₀ after (i + 1) n
    erasing_turn = erase_by (is_dropped report i) refl

  pub erasing_end : {img : List ℕ} {i : ℕ} → n ≤ i → Erasing l report img₀ img i n → img ≡ erase_slots l img₀ (those (is_dropped report) 0 n)
  unfolding erase_slots
  erasing_end {img} {i} h s = sym (ap (erase_slots l img) (those_end (is_dropped report) i n h)) ∙ s.rest

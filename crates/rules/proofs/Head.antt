-- The check reads the length, byte 16, the directory in use and the map alone (`check_reads`); so the first 17,408 bytes and the length decide it.
-- Readers that agree there show the same kind, entries and map values. Assumes nothing.
use Rattle.std.specs.Prelude.{◌≡◌, Bool, List, ℕ, ◌+◌, ◌-◌, ◌≤◌, min, length, take, Ok, Err}
use Rattle.std.proofs.Math.Path.{refl, sym, ap}
use Rattle.std.proofs.Common.{ap₂, ◌∙◌, inl, length-take, take-take, le-ltb}
use Rattle.std.proofs.Math.Bool.{true, false}
use Rattle.std.proofs.Math.Option.{Option, none, some}
use native.Mathlib.Omega.{arith}
use Rattle.std.proofs.Math.Dec.{eqb}
use Rattle.laws.specs.Lemmas.Truth.{clash}
use Rattle.laws.specs.Lemmas.Scan.{all_cong, count_cong}
use Rattle.laws.specs.Reader.{bytes}
use Rattle.layout.specs.declared.Kind.{Kind}
use Rattle.layout.specs.declared.Kind.TheVariants.{S900, S1000}
use Rattle.layout.specs.declared.Density.{Density}
use Rattle.layout.specs.declared.Layout.{Layout}
use Rattle.layout.specs.Layouts.{layout_of, length_of, head_length, slot_offset}
use Rattle.layout.specs.Right.{LayoutRight}
use Rattle.layout.proofs.Right.{layout_right}
use Rattle.blocks.specs.Lemmas.Numbers.{number_cong}
use Rattle.map.specs.Map.{map_at, free_count}
use Rattle.view.specs.Disk.{used}
use Rattle.view.proofs.Lemmas.Head.{same-rules}
use Rattle.image.specs.Image.{identity_at, view_of, InUse}
use Rattle.rules.specs.Accepted.{second_over, density_is}
use Rattle.rules.proofs.Accepts.{known_is}
use Rattle.rules.specs.Check.{density_of, passed_over, has_identity, kind_of, known_head, known_start, used_count, check_as, check_head, check_of, check_start, Known}
use Rattle.rules.specs.Lemmas.Steps.{known_length, known_kind_is, known_disk, head_unknown, head_known}
use Rattle.rules.specs.Head.{Read, same_map, same-entry, read_head, head_agree}

module _ (b c : ℕ → ℕ) (l : Layout) (right : LayoutRight l) (agree : (i : ℕ) → Read l i → c i ≡ b i) where
  same-has : has_identity l c ≡ has_identity l b
  unfolding has_identity
  same-has =
      all_cong (λ s. eqb (identity_at l c s) l.identity) (λ s. eqb (identity_at l b s) l.identity) 0 l.slots
      (λ s h k. ap (λ (x : ℕ). eqb x l.identity) (number_cong 2 b c (slot_offset l s + 22) (λ i p q. agree i (inl (omega arith, omega arith)))))

  same-used : used_count l (view_of l c) ≡ used_count l (view_of l b)
  unfolding used_count
  same-used =
      count_cong (λ s. used ((view_of l c).entry s)) (λ s. used ((view_of l b).entry s)) 0 l.slots (λ s p q. ap used (same-entry b c l right agree s (omega arith)))

  same-free : free_count l (map_at c) ≡ free_count l (map_at b)
  unfolding free_count
  same-free =
      count_cong (λ k. eqb (map_at c k) 0) (λ k. eqb (map_at b k) 0) l.first (l.blocks - l.first)
      (λ k p q. ap (λ (x : ℕ). eqb x 0) (same_map b c l right agree k (omega (arith, right.data_some))))

module _ (b c : ℕ → ℕ) (d : Density) (first : c 16 ≡ b 16) (agree : (k : Kind) (i : ℕ) → InUse (layout_of k d) b → Read (layout_of k d) i → c i ≡ b i) where
  same_as : (k : Kind) → InUse (layout_of k d) b → check_as k d c ≡ check_as k d b
  unfolding check_as
  same_as k here =
      let l = layout_of k d in
      let right = layout_right k d in
      let alike : (i : ℕ) → Read l i → c i ≡ b i = λ i. agree k i here in
      rw (
        same-rules l right (view_of l b) (view_of l c) (same_map b c l right alike) (same-entry b c l right alike),
        same-used b c l right alike,
        same-free b c l right alike,
      ) refl

  same_over : passed_over c ≡ passed_over b
  unfolding passed_over
  same_over = ap (λ (x : ℕ). eqb x 255) first

  -- the identities are asked for only where the first directory is in use
  kind_by : (t : Bool) → passed_over b ≡ t → kind_of d c ≡ kind_of d b
  unfolding kind_of
  kind_by true p = rw (same_over, p) refl
  kind_by false p =
      let told : (k : Kind) → (layout_of k d).second ≡ false → has_identity (layout_of k d) c ≡ has_identity (layout_of k d) b =
      λ k e. same-has b c (layout_of k d) (layout_right k d) (λ i. agree k i (second_over (layout_of k d) b (p ∙ sym e) (λ q. absurd (clash q e)))) in
      rw (same_over, told S900 refl, told S1000 refl) refl

  same_kind : kind_of d c ≡ kind_of d b
  same_kind = kind_by (passed_over b) refl

module _ (b c : ℕ → ℕ) (n : ℕ) (first : c 16 ≡ b 16) (agree : (k : Kind) (d : Density) (i : ℕ) → n ≡ length_of d → InUse (layout_of k d) b → Read (layout_of k d) i → c i ≡ b i) where
  pub same_known : known_head n c ≡ known_head n b
  same_known = go (density_of n) refl
    where
      alike : (d : Density) → density_of n ≡ some d → kind_of d c ≡ kind_of d b
      alike d p = same_kind b c d first (λ k i. agree k d i (density_is n d p))

      by_kind : (d : Density) → density_of n ≡ some d → (k : Option Kind) → kind_of d b ≡ k → known_head n c ≡ known_head n b
      by_kind d p none q = known_kind_is c n d p (alike d p ∙ q) ∙ sym (known_kind_is b n d p q)
      by_kind d p (some k) q = known_disk c n d p k (alike d p ∙ q) ∙ sym (known_disk b n d p k q)

      go : (d : Option Density) → density_of n ≡ d → known_head n c ≡ known_head n b
      go none p = known_length c n p ∙ sym (known_length b n p)
      go (some d) p = by_kind d p (kind_of d b) refl

  same_check : check_head n c ≡ check_head n b
  same_check = go (known_head n b) refl
    where
      go : (x : Known) → known_head n b ≡ x → check_head n c ≡ check_head n b
      go (Err r) e = head_unknown c n (same_known ∙ e) ∙ sym (head_unknown b n e)
      go (Ok disk) e =
          let w = known_is n b disk.kind disk.density e in
          head_known c n (same_known ∙ e) ∙ same_as b c disk.density first (λ j i. agree j disk.density i w.0) disk.kind w.1.in_use ∙ sym (head_known b n e)

-- The check reads the length, slot 0's type in the first directory, the directory in use and the map, and nothing else: images that agree in these get
-- the same answer.
pub check_reads : (x y : List ℕ) → length y ≡ length x → bytes y 16 ≡ bytes x 16
    → ((k : Kind) (d : Density) (i : ℕ) → length x ≡ length_of d → InUse (layout_of k d) (bytes x) → Read (layout_of k d) i → bytes y i ≡ bytes x i) → check_of y ≡ check_of x
check_reads x y n first agree = ap (λ (k : ℕ). check_head k (bytes y)) n ∙ same_check (bytes x) (bytes y) (length x) first agree

-- ---- what is read lies in the first 17,408 bytes

-- A head that has the image's first 17,408 bytes, or all of them, suffices.
pub start_check : (head img : List ℕ) → min (length img) head_length ≤ length head → take head_length head ≡ take head_length img → check_start head (length img) ≡ check_of img
unfolding check_start known_start check_head
start_check head img n e =
    rw (le-ltb (length head) (min (length img) head_length) n) (same_check (bytes img) (bytes head) (length img) (head_agree img head e 16 (omega arith)) (λ k d i h u r. head_agree img head e i (read_head k d i r)))

-- The listing program's head: the first 17,408 bytes.
pub head_check : (img : List ℕ) → check_start (take head_length img) (length img) ≡ check_of img
head_check img = start_check (take head_length img) img (omega (arith, length-take head_length img)) (take-take head_length head_length img (omega arith))

-- Images of one length with the same head are checked alike.
pub head_decides : (x y : List ℕ) → length x ≡ length y → take head_length x ≡ take head_length y → check_of x ≡ check_of y
head_decides x y n h = sym (head_check x) ∙ ap₂ (λ (k : ℕ) (z : List ℕ). check_start z k) n h ∙ head_check y

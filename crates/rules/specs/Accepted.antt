-- Demand 2: an image is accepted exactly when the disk rules hold, with its kind, its density, the number of its files and the zeros counted in
-- its map. Each part of the check is one of the rules; no two kinds have one directory and one identity, so the kind is one. Assumes nothing.
use Rattle.std.specs.Prelude.{◌≡◌, refl, Bool, true, false, List, ℕ, eqb}
use Rattle.std.proofs.Common.{sym, ◌∙◌, arith, eqb-true, eq-eqb, ne_eqb}
use Rattle.std.proofs.Math.Option.{none, some}
use Rattle.laws.specs.Truth.{pick}
use Rattle.laws.specs.Lemmas.Truth.{clash}
use Rattle.laws.specs.Reader.{bytes}
use Rattle.layout.specs.declared.Kind.{Kind}
use Rattle.layout.specs.declared.Kind.TheVariants.{S900, S1000, S3000}
use Rattle.layout.specs.declared.Density.{Density}
use Rattle.layout.specs.declared.Density.TheVariants.{Low, High}
use Rattle.layout.specs.declared.Layout.{Layout}
use Rattle.layout.specs.Layouts.{layout_of, blocks_of, image_length, length_of}
use Rattle.map.specs.Map.{map_at, free_count}
use Rattle.image.specs.Image.{files_in, InUse}
use Rattle.record.specs.Record.{file_count}
use Rattle.rules.specs.Check.{density_of, passed_over, Checked, accepting}

-- The check's answer for an image that meets the rules.
abbrev pub accepted_as : Kind → Density → List ℕ → Checked
accepted_as k d img = accepting k d (file_count (layout_of k d) (files_in (layout_of k d) img)) (free_count (layout_of k d) (map_at (bytes img)))

-- ---- the length

pub length_of_is : (k : Kind) (d : Density) → image_length (layout_of k d) ≡ length_of d
length_of_is S900 Low = refl
length_of_is S900 High = refl
length_of_is S1000 Low = refl
length_of_is S1000 High = refl
length_of_is S3000 Low = refl
length_of_is S3000 High = refl

pub density_is : (n : ℕ) (d : Density) → density_of n ≡ some d → n ≡ length_of d
unfolding density_of
density_is n d e = go (eqb n (length_of Low)) (eqb n (length_of High)) refl refl d e
  where
    go : (t u : Bool) → eqb n (length_of Low) ≡ t → eqb n (length_of High) ≡ u → (d : Density) → pick t (some Low) (pick u (some High) none) ≡ some d → n ≡ length_of d
    go true u p q Low e = eqb-true n (length_of Low) p
    go true u p q High e = let h : Low ≡ High = cc in absurd (let z : ◌≡◌ {A = ℕ} 0 1 = cc in omega arith)
    go false true p q Low e = let h : High ≡ Low = cc in absurd (let z : ◌≡◌ {A = ℕ} 0 1 = cc in omega arith)
    go false true p q High e = eqb-true n (length_of High) q
    go false false p q d e = absurd (let z : ◌≡◌ {A = ℕ} 0 1 = cc in omega arith)

pub is_density : (n : ℕ) (d : Density) → n ≡ length_of d → density_of n ≡ some d
unfolding density_of
is_density n Low e = rw (eq-eqb n (length_of Low) e) refl
is_density n High e = rw (ne_eqb n (length_of Low) (λ z. omega arith), eq-eqb n (length_of High) e) refl

-- ---- the kind

-- the first directory is passed over exactly on a layout with a second one
pub over_second : (l : Layout) (b : ℕ → ℕ) → InUse l b → passed_over b ≡ l.second
unfolding passed_over
over_second l b k = go l.second refl
  where
    go : (t : Bool) → l.second ≡ t → eqb (b 16) 255 ≡ l.second
    go true e = eq-eqb (b 16) 255 (k.passed_over_is.1 e) ∙ sym e
    go false e = ne_eqb (b 16) 255 (λ p. clash (k.passed_over_is.0 p) e) ∙ sym e

pub second_over : (l : Layout) (b : ℕ → ℕ) → passed_over b ≡ l.second → (l.second ≡ true → l.blocks ≡ blocks_of High) → InUse l b
unfolding passed_over
second_over l b e dense = record { passed_over_is = (λ p. sym e ∙ eq-eqb (b 16) 255 p, λ q. eqb-true (b 16) 255 (e ∙ q)); dense = dense }

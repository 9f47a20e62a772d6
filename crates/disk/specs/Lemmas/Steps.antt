-- The check's definitions in the steps in which the code takes them.
-- Each step is a part of `rules` or of `check_start`, cut out by name; a refusal or the next step by what a search found. Assumes nothing.
use Rattle.std.proofs.Math.Path.{◌≡◌, refl, sym}
use Rattle.std.proofs.Common.{◌∙◌, arith}
use Rattle.std.specs.Prelude.{Bool, List, ℕ, ◌≤◌, ◌<◌, min, length, Some, Err, Ok, None}
use Rattle.std.proofs.Math.Bool.{true, false}
use Rattle.std.proofs.Math.Option.{none}
use Rattle.std.proofs.Math.Decide.{dec_lt}
use Rattle.std.proofs.Math.Dec.{ltb}
use borrow.Author.Tests.{eq-eqb, ne_eqb, le-ltb, ltb-false}
use Rattle.laws.specs.Truth.{pick}
use Rattle.laws.specs.Scan.{lowest, Lowest}
use Rattle.laws.specs.Reader.{bytes}
use Rattle.layout.specs.declared.Kind.{Kind}
use Rattle.layout.specs.declared.Kind.TheVariants.{S900, S1000}
use Rattle.layout.specs.declared.Density.{Density}
use Rattle.layout.specs.declared.Density.TheVariants.{Low, High}
use Rattle.layout.specs.declared.Layout.{Layout}
use Rattle.layout.specs.Layouts.{layout_of, length_of, head_length, block_offset, slot_offset}
use Rattle.layout.specs.Right.{LayoutRight}
use Rattle.layout.proofs.Right.{layout_right}
use Rattle.map.specs.Map.{map_at, free_count}
use Rattle.view.specs.Disk.{View}
use Rattle.laws.specs.declared.Refusal.{Refusal}
use Rattle.laws.specs.Refusals.{refusal_at, Counted}
use Rattle.view.specs.Rules.{rules, bad_system, malformed, repeated, Ruled}
use Rattle.rules.specs.Check.{or_unknown, density_of, passed_over, second_kind, has_identity, known_kind, known_head, known_start, used_count, check_as, check_start, Known, known_as, accepting}
use Rattle.rules.specs.Lemmas.Steps.{as_passed, as_failed}
use Rattle.image.specs.Image.{view_of}
use Rattle.slots.specs.Forms.{or_used}
use Rattle.chains.specs.Passes.{chain_rules, or_free}

-- The chains' answer by that which has the free blocks.
free_passed : (r : Ruled) {n free : ℕ} → Ok free ≡ or_free r n → (r ≡ Ok tt) × (free ≡ n)
free_passed (Ok _) e = (refl, cc)
free_passed (Err w) e = absurd (let o : ◌≡◌ {A = ℕ} 0 1 = cc in omega arith)

free_failed : (r : Ruled) (n : ℕ) {w : Refusal} → Err w ≡ or_free r n → r ≡ Err w
free_failed (Ok _) n e = absurd (let o : ◌≡◌ {A = ℕ} 0 1 = cc in omega arith)
free_failed (Err w) n e = cc

-- ---- a layout that the code made

module _ (k : Kind) (d : Density) {l : Layout} (made : l ≡ layout_of k d) where
  -- it is right, and its directory and system blocks lie in a head of 17,408 bytes
  pub made_right : LayoutRight l
  made_right = rw made (layout_right k d)

  module _ {n : ℕ} (long : head_length ≤ n) where
    pub first_held : block_offset l.first ≤ n
    first_held = omega (arith, made_right.head_holds)

    pub directory_held : slot_offset l l.slots ≤ n
    directory_held = let e = made_right.directory_low in let f = first_held in omega arith

  -- ---- refusals 3 to 9, each after those before it

  module _ (b : ℕ → ℕ) where
    abbrev v : View
    v = view_of l b

    refused : {w : Refusal} → rules l v ≡ Err w → Err w ≡ check_as k d b
    refused e = sym (as_failed b d k (rw made at e))

    module _ {system : Lowest} (first : system ≡ lowest (bad_system l v) 0 l.system) where
      pub check_system : {block : ℕ} → system ≡ Some block → Err (refusal_at 3 block) ≡ check_as k d b
      unfolding rules
      check_system t = refused (rw (← first, t) refl)

    module _ (right : lowest (bad_system l v) 0 l.system ≡ None) where
      form_fault : (x : Lowest) (n : ℕ) {w : Refusal} → x ≡ lowest (malformed l v) 0 l.slots → Err w ≡ or_used x n → Err w ≡ rules l v
      unfolding rules
      form_fault (Some s) n e t = rw (right, ← e) cc
      form_fault None n e t = absurd (let o : ◌≡◌ {A = ℕ} 0 1 = cc in omega arith)

      pub check_form : (n : ℕ) {w : Refusal} → Err w ≡ or_used (lowest (malformed l v) 0 l.slots) n → Err w ≡ check_as k d b
      check_form n t = refused (sym (form_fault (lowest (malformed l v) 0 l.slots) n refl t))

      module _ {files : ℕ} (formed : Ok files ≡ or_used (lowest (malformed l v) 0 l.slots) (used_count l v)) {name : Lowest} (third : name ≡ lowest (repeated l v) 0 l.slots) where
        none_malformed : (x : Lowest) {n : ℕ} → Ok files ≡ or_used x n → (x ≡ None) × (files ≡ n)
        none_malformed (Some s) e = absurd (let o : ◌≡◌ {A = ℕ} 0 1 = cc in omega arith)
        none_malformed None e = (refl, cc)

        well : lowest (malformed l v) 0 l.slots ≡ None
        well = (none_malformed (lowest (malformed l v) 0 l.slots) formed).0

        pub check_name : {s : ℕ} → name ≡ Some s → Err (refusal_at 5 s) ≡ check_as k d b
        unfolding rules
        check_name t = refused (rw (right, well, ← third, t) refl)

        module _ (single : name ≡ None) where
          on_chains : chain_rules l v ≡ rules l v
          unfolding rules chain_rules
          on_chains = rw (right, well, ← third, single) refl

          module _ {r : Counted} (fourth : r ≡ or_free (chain_rules l v) (free_count l (map_at b))) where
            pub check_pass : {free : ℕ} → r ≡ Ok free → accepting k d files free ≡ check_as k d b
            check_pass t =
                let p = free_passed (chain_rules l v) (sym t ∙ fourth) in
                rw ((none_malformed (lowest (malformed l v) 0 l.slots) formed).1, p.1, made) (sym (as_passed b d k (rw made at (sym on_chains ∙ p.0))))

            pub check_chains : {w : Refusal} → r ≡ Err w → Err w ≡ check_as k d b
            check_chains t = refused (sym on_chains ∙ free_failed (chain_rules l v) (free_count l (map_at b)) (sym t ∙ fourth))

-- ---- the kind and the length

module _ (d : Density) (b : ℕ → ℕ) {over : Bool} (first : over ≡ passed_over b) where
  pub kinds_over : {x : Known} → over ≡ true → x ≡ or_unknown (second_kind d) 2 (λ k. known_as k d) → x ≡ known_kind d b
  unfolding known_kind
  kinds_over t e = rw (sym first ∙ t) e

  module _ (own : over ≡ false) where
    pub kinds_900 : {r : Bool} → r ≡ has_identity (layout_of S900 d) b → r ≡ true → known_as S900 d ≡ known_kind d b
    unfolding known_kind
    kinds_900 e t = rw (sym first ∙ own, sym e ∙ t) refl

    module _ {r : Bool} (e : r ≡ has_identity (layout_of S900 d) b) (t : r ≡ false) {q : Bool} (f : q ≡ has_identity (layout_of S1000 d) b) where
      pub kinds_1000 : q ≡ true → known_as S1000 d ≡ known_kind d b
      unfolding known_kind
      kinds_1000 u = rw (sym first ∙ own, sym e ∙ t, sym f ∙ u) refl

      pub kinds_neither : q ≡ false → Err (refusal_at 2 0) ≡ known_kind d b
      unfolding known_kind
      kinds_neither u = rw (sym first ∙ own, sym e ∙ t, sym f ∙ u) refl

module _ (head : List ℕ) (size : ℕ) where
  none_by : size < head_length → density_of size ≡ none
  unfolding density_of
  none_by h = rw (ne_eqb size (length_of Low) (λ e. omega arith), ne_eqb size (length_of High) (λ e. omega arith)) refl

  -- a head that is short: it isn't all that it could be, or the image itself is short
  pub start_short : length head < head_length → Err (refusal_at 1 0) ≡ known_start head size
  unfolding known_start known_head
  start_short h = go (ltb (length head) (min size head_length)) refl
    where
      go : (t : Bool) → ltb (length head) (min size head_length) ≡ t → Err (refusal_at 1 0) ≡ pick (ltb (length head) (min size head_length)) (Err (refusal_at 1 0)) (known_head size (bytes head))
      go true e = rw e refl
      go false e = rw (e, none_by (omega (arith, ltb-false (length head) (min size head_length) e))) refl

  module _ (long : head_length ≤ length head) where
    pub start-low : size ≡ length_of Low → known_kind Low (bytes head) ≡ known_start head size
    unfolding known_start known_head density_of
    start-low e = rw (le-ltb (length head) (min size head_length) (omega arith), eq-eqb size (length_of Low) e) refl

    pub start-high : size ≡ length_of High → known_kind High (bytes head) ≡ known_start head size
    unfolding known_start known_head density_of
    start-high e =
        rw (le-ltb (length head) (min size head_length) (omega arith), ne_eqb size (length_of Low) (λ z. omega arith), eq-eqb size (length_of High) e) refl

    pub start_none : (size ≡ length_of Low → ⊥) → (size ≡ length_of High → ⊥) → Err (refusal_at 1 0) ≡ known_start head size
    unfolding known_start known_head density_of
    start_none p q = rw (le-ltb (length head) (min size head_length) (omega arith), ne_eqb size (length_of Low) p, ne_eqb size (length_of High) q) refl

  -- ---- the check, by what is known

  module _ {x : Known} (known : x ≡ known_start head size) where
    pub start_unknown : {r : Refusal} → x ≡ Err r → Err r ≡ check_start head size
    unfolding check_start
    start_unknown e = rw (← known, e) refl

    pub start_disk : {k : Kind} {d : Density} → x ≡ known_as k d → check_as k d (bytes head) ≡ check_start head size
    unfolding check_start
    start_disk e = rw (← known, e) refl

    -- a disk that is known has a whole head
    pub start_long : {k : Kind} {d : Density} → x ≡ known_as k d → head_length ≤ length head
    start_long {k} {d} e = go (dec_lt (length head) head_length)
      where
        go : Dec (length head < head_length) → head_length ≤ length head
        go (no h) = omega arith
        go (yes h) = let z : Err (refusal_at 1 0) ≡ known_as k d = start_short h ∙ sym known ∙ e in absurd (let o : ◌≡◌ {A = ℕ} 0 1 = cc in omega arith)

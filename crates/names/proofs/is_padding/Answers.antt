-- `names::is_padding` meets its contract: an area's bytes past the name are the padding where all but the last are its fill and the last is its last.
-- By the library's law for `all` over a slice, and induction on how much is filled. Assumes nothing.
use Rattle.std.proofs.Common.{◌≡◌, refl, sym, ◌∙◌, List, [], ◌∷◌, ◌++◌, ℕ, zero, suc, ◌+◌, ◌-◌, Bool, true, false, arith, rules, length, take, drop, replicate, get_or, get_or-drop, length-drop, eqb}
use borrow.Author.Tests.{tests}
use Rattle.laws.specs.Lists.{all_of, same}
use Rattle.laws.specs.Truth.{both}
use Rattle.layout.specs.declared.Layout.{Layout}
use Rattle.layout.specs.Right.{LayoutRight}
use Rattle.names.specs.Names.{padding}
use Rattle.laws.proofs.Tests.{all_told}
use Rattle.names.proofs.is_padding.Goals as goal

both_yes : (a : Bool) → both a true ≡ a
both_yes true = refl
both_yes false = refl

both_more : (a b c : Bool) → both a (both b c) ≡ both (both a b) c
both_more true b c = refl
both_more false b c = refl

-- n bytes of fill and a last one
same_filled : (fill last n : ℕ) (xs : List ℕ) → length xs ≡ n + 1
    → same xs (replicate n fill ++ (last ∷ [])) ≡ both (all_of (λ b. eqb b fill) (take n xs)) (eqb (get_or xs n 0) last)
unfolding same all_of
same_filled fill last n [] e = absurd (omega arith)
same_filled fill last zero (x ∷ []) e = both_yes (eqb x last)
same_filled fill last zero (x ∷ y ∷ xs) e = absurd (omega arith)
same_filled fill last (suc n) (x ∷ xs) e = rw (same_filled fill last n xs (omega arith)) (both_more (eqb x fill) (all_of (λ b. eqb b fill) (take n xs)) (eqb (get_or xs n 0) last))

rest_filled : (l : Layout) → LayoutRight l → (area : List ℕ) → length area ≡ 16
    → same (drop l.letters area) (padding l) ≡ both (all_of (λ b. eqb b l.pad) (take (15 - l.letters) (drop l.letters area))) (eqb (get_or area 15 0) l.last)
unfolding padding
rest_filled l right area size =
    let few = right.letters_few in
    let e : l.letters + (15 - l.letters) ≡ 15 = omega arith in
    same_filled l.pad l.last (15 - l.letters) (drop l.letters area) (omega (arith, length-drop l.letters area))
    ∙ rw (get_or-drop, e) refl

pub returns-then-all : goal.returns-then-all
returns-then-all c =
    let l = c.args.layout in
    let a = c.args.area.now in
    let e = all_told (λ b. eqb b l.pad) (take (15 - l.letters) (drop l.letters a)) c.all.ensures.ran (cc) (λ x b q k. search (rules, tests)) in
    rw c.from.ensures (sym (rest_filled l c.requires.0 a c.requires.1 ∙ rw (sym e ∙ c.if-all.true) refl))

pub returns-else-all : goal.returns-else-all
returns-else-all c =
    let l = c.args.layout in
    let a = c.args.area.now in
    let e = all_told (λ b. eqb b l.pad) (take (15 - l.letters) (drop l.letters a)) c.all.ensures.ran (cc) (λ x b q k. search (rules, tests)) in
    c.if-all.false ∙ sym (rest_filled l c.requires.0 a c.requires.1 ∙ rw (sym e ∙ c.if-all.false) refl)

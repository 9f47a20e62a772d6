-- `names::area_of` meets its contract: after i turns the name's first i bytes stand in front of the padding.
-- The loop writes the name in order over an area of padding. Assumes nothing.
use Rattle.std.proofs.Common.{◌≡◌, refl, sym, ap, ◌∙◌, List, [], ◌∷◌, ◌++◌, map, ℕ, zero, suc, ◌-◌, ◌≤◌, arith, length, drop, set, replicate, take_all}
use Rattle.std.proofs.Math.ListN.{length-map}
use Rattle.laws.specs.Splice.{splice}
use Rattle.laws.specs.Lemmas.Splice.{splice_none, splice-turn, splice_back}
use Rattle.layout.specs.declared.Layout.{Layout}
use Rattle.layout.specs.Right.{LayoutRight}
use Rattle.names.specs.NameLaws.{get_or_map, name-length}
use Rattle.names.specs.Names.{area_of, to_disk, padding}
use Rattle.names.proofs.area_of.Goals as goal

-- what is left of n bytes of fill and a last one
drop_filled : (fill last n k : ℕ) → k ≤ n → drop k (replicate n fill ++ (last ∷ [])) ≡ replicate (n - k) fill ++ (last ∷ [])
drop_filled fill last n zero h = let e : n - 0 ≡ n = omega arith in rw e refl
drop_filled fill last zero (suc k) h = absurd (omega arith)
drop_filled fill last (suc n) (suc k) h = let e : suc n - suc k ≡ n - k = omega arith in rw e (drop_filled fill last n k (omega arith))

-- a name over an area of padding
written : (l : Layout) → LayoutRight l → (name : List ℕ) → length name ≡ l.letters → splice (set (replicate 16 l.pad) 15 l.last) 0 (map (to_disk l) name) ≡ area_of l name
unfolding area_of padding
written l right name n =
    let few = right.letters_few in
    sym (splice_back (set (replicate 16 l.pad) 15 l.last) 0 l.letters (map (to_disk l) name) (omega arith) (length-map name (to_disk l) ∙ n))
    ∙ ap (λ (xs : List ℕ). map (to_disk l) name ++ xs) (drop_filled l.pad l.last 15 l.letters (omega arith))

pub loop-i-init : goal.loop-i-init
loop-i-init c = splice_none _ _

pub bounds-area-i : goal.bounds-area-i
bounds-area-i c = omega (arith, c.requires.0.letters_few, name-length c.args.layout c.requires.0 c.args.name.now c.requires.1)

pub loop-i-preserved : goal.loop-i-preserved
loop-i-preserved c =
    let l = c.args.layout in
    let n = c.args.name.now in
    splice-turn _ 0 (map (to_disk l) n) c.loop-i.i c.loop-i.invariant (omega arith) (omega (arith, length-map n (to_disk l))) (c.disk_byte.ensures ∙ sym (get_or_map (to_disk l) n c.loop-i.i (omega arith)))

pub returns : goal.returns
returns c =
    let l = c.args.layout in
    let n = c.args.name.now in
    c.loop-i.invariant ∙ rw (take_all c.loop-i.i (map (to_disk l) n) (omega (arith, length-map n (to_disk l)))) (written l c.requires.0 n (name-length l c.requires.0 n c.requires.1))

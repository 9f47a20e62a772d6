-- `names::name_of` meets its contract: after i turns the name's first i bytes are written over zeros.
-- The loop writes the name in order; zeros with a list written in front are the list padded. Assumes nothing.
use Rattle.std.proofs.Common.{◌≡◌, sym, ap, ◌∙◌, List, ℕ, ◌<◌, arith, length, take, get_or, take_all, get_or-take}
use Rattle.laws.specs.Lemmas.Padded.{splice_zeros}
use Rattle.laws.specs.Lemmas.Splice.{splice_none, splice-turn}
use Rattle.layout.specs.Right.{LayoutRight}
use Rattle.layout.specs.declared.Layout.{Layout}
use Rattle.names.specs.NameLaws.{get_or_map, length_front, length-name}
use Rattle.names.specs.Names.{name_of, to_ascii}
use Rattle.names.proofs.name_of.Goals as goal

-- a byte of the name
get_or-name : (l : Layout) → LayoutRight l → (area : List ℕ) → length area ≡ 16 → (i : ℕ) → i < l.letters → get_or (name_of l area) i 0 ≡ to_ascii l (get_or area i 0)
unfolding name_of
get_or-name l right area size i h =
    get_or_map (to_ascii l) (take l.letters area) i (omega (arith, length_front l right area size)) ∙ ap (to_ascii l) (get_or-take l.letters area i 0 h)

pub loop-i-init : goal.loop-i-init
loop-i-init c = splice_none _ _

pub loop-i-preserved : goal.loop-i-preserved
loop-i-preserved c =
    let k = c.loop-i in
    let l = c.args.layout in
    let a = c.args.area.now in
    let size = length-name l c.requires.0 a c.requires.1 in
    let e = c.ascii_byte.ensures ∙ sym (get_or-name l c.requires.0 a c.requires.1 k.i (omega arith)) in
    splice-turn _ 0 (name_of l a) k.i k.invariant (omega arith) (omega arith) e

pub returns : goal.returns
returns c =
    let k = c.loop-i in
    let l = c.args.layout in
    let a = c.args.area.now in
    let size = length-name l c.requires.0 a c.requires.1 in
    k.invariant ∙ rw (take_all k.i (name_of l a) (omega arith)) (splice_zeros 12 (name_of l a) (omega (arith, c.requires.0.letters_few)))

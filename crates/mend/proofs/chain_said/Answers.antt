-- `mend::chain_said` meets its contract: what is said of the rest of the chain, after what was met so far, is what is said of the whole chain, and the blocks
-- gone through are noted. The block in hand is a data block before it is looked up, so below 1,600. Assumes nothing.
use Rattle.std.proofs.Common.{◌≡◌, refl, sym, ap, ◌∙◌, Bool, ◌+◌, ◌-◌, ◌≤◌, arith}
use Rattle.laws.specs.Truth.{pick}
use Rattle.map.specs.Lemmas.Chains.{nth_first, nth_next}
use Rattle.map.specs.Lemmas.Walks.{link_data}
use Rattle.mend.specs.Lemmas.Noting.{noting_none, noting_one, noted_not, noted_whole}
use Rattle.mend.specs.Lemmas.Walking.{said_astray, said_cut, said_early, said_last, said_on}
use Rattle.mend.proofs.chain_said.Goals as goal

pub loop-links-init : goal.loop-links-init
loop-links-init c =
    let z : c.args.links - 0 ≡ c.args.links = omega arith in
    (omega arith, rw z refl, nth_first _ _ _, noting_none _ _ c.requires)

pub returns-then-not-is_link : goal.returns-then-not-is_link
returns-then-not-is_link c =
    let i = c.loop-links.invariant in
    record { value = sym (i.1 ∙ said_astray _ _ _ _ _ _ (sym c.is_link.ensures ∙ c.if-not-is_link.true)); noted = noted_not i.3.size (λ e. omega arith) }

pub bounds-marks-block : goal.bounds-marks-block
bounds-marks-block c =
    let linked = sym c.is_link.ensures ∙ c.if-not-is_link.false in
    omega (arith, (link_data _ _ linked).1, c.args.image.right.blocks_most)

pub note-requires : goal.note-requires
note-requires c =
    let linked = sym c.is_link.ensures ∙ c.if-not-is_link.false in
    omega (arith, (link_data _ _ linked).1, c.args.image.right.blocks_most)

pub map_at-value-requires : goal.map_at-value-requires
map_at-value-requires c =
    let linked = sym c.is_link.ensures ∙ c.if-not-is_link.false in
    omega (arith, (link_data _ _ linked).1, c.args.image.right.map-low, c.args.image.long)

pub returns-then-value-mark : goal.returns-then-value-mark
returns-then-value-mark c =
    let linked = sym c.is_link.ensures ∙ c.if-not-is_link.false in
    let i = c.loop-links.invariant in
    let noted = noting_one _ _ _ _ i.3 i.2 c.note.ensures in
    record {
      value = sym (i.1 ∙ said_cut _ _ _ _ _ linked c.map_at-value.ensures _ (omega arith) c.if-value-mark.true);
      noted = noted_not noted.size (λ e. omega arith);
    }

pub returns-then-shared : goal.returns-then-shared
returns-then-shared c =
    let linked = sym c.is_link.ensures ∙ c.if-not-is_link.false in
    let i = c.loop-links.invariant in
    let noted = noting_one _ _ _ _ i.3 i.2 c.note.ensures in
    let last = said_last _ _ _ _ _ linked c.map_at-value.ensures _ (omega arith) c.if-value-mark.false in
    record { value = sym (i.1 ∙ last ∙ ap (λ (t : Bool). pick t 8 1) c.if-shared.true); noted = noted_not noted.size (λ e. omega arith) }

pub returns-then-k-links : goal.returns-then-k-links
returns-then-k-links c =
    let linked = sym c.is_link.ensures ∙ c.if-not-is_link.false in
    let i = c.loop-links.invariant in
    let noted = noting_one _ _ _ _ i.3 i.2 c.note.ensures in
    let last = said_last _ _ _ _ _ linked c.map_at-value.ensures _ (omega arith) c.if-value-mark.false in
    let e = sym (i.1 ∙ last ∙ ap (λ (t : Bool). pick t 8 1) c.if-shared.false) in
    record { value = e; noted = noted_whole _ c.args.image.right _ _ _ _ e (rw c.if-k-links.true at noted) }

pub returns-then-value-mark-2 : goal.returns-then-value-mark-2
returns-then-value-mark-2 c =
    let linked = sym c.is_link.ensures ∙ c.if-not-is_link.false in
    let i = c.loop-links.invariant in
    let noted = noting_one _ _ _ _ i.3 i.2 c.note.ensures in
    record {
      value = sym (i.1 ∙ said_early _ _ _ _ _ linked c.map_at-value.ensures _ (λ z. c.if-k-links.false (omega arith)) c.if-value-mark-2.true);
      noted = noted_not noted.size (λ e. omega arith);
    }

pub loop-links-preserved : goal.loop-links-preserved
loop-links-preserved c =
    let linked = sym c.is_link.ensures ∙ c.if-not-is_link.false in
    let k = c.loop-links in
    let i = k.invariant in
    let more : k.k + 1 ≤ c.args.links = let n = c.if-k-links.false in omega arith in
    let z : c.args.links - (k.k + 1) ≡ c.args.links - k.k - 1 = omega arith in (
      more,
      rw z (i.1 ∙ said_on _ _ _ _ _ linked c.map_at-value.ensures _ (λ e. c.if-k-links.false (omega arith)) c.if-value-mark-2.false),
      nth_next _ _ _ k.k i.2 c.map_at-value.ensures (omega arith) refl,
      noting_one _ _ _ _ i.3 i.2 c.note.ensures,
    )

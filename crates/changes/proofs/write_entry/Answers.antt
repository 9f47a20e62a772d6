-- `changes::write_entry` meets its contract: name area, type, length, start and identity follow one another, so they are one write of 24 bytes.
-- A write that goes on where another ends joins it, by `splice-append`. Assumes nothing.
use Rattle.std.proofs.Common.{◌≡◌, ◌∙◌, List, [], ◌∷◌, ◌++◌, ℕ, ◌+◌, arith, length, set, take_all}
use Rattle.blocks.specs.Lemmas.Numbers.{length_digits}
use Rattle.blocks.specs.Numbers.{digits}
use Rattle.changes.specs.Changes.{entry_with}
use Rattle.image.specs.Image.{set_entry}
use Rattle.laws.specs.Lemmas.Splice.{splice-append}
use Rattle.laws.specs.Splice.{splice, part}
use Rattle.changes.proofs.write_entry.Goals as goal

-- a write that goes on where another ends, at the place that the code names
join : (l : List ℕ) (at next : ℕ) (vs us : List ℕ) → next ≡ at + length vs → splice (splice l at vs) next us ≡ splice l at (vs ++ us)
join l at next vs us e = rw e (splice-append l at vs us)

-- type, length, start and identity as one write after the name area
fields : (l : List ℕ) (at type size start own : ℕ)
    → splice (splice (splice (set l (at + 16) type) (at + 17) (digits 3 size)) (at + 20) (digits 2 start)) (at + 22) (digits 2 own)
    ≡ splice l (at + 16) (type ∷ digits 3 size ++ (digits 2 start ++ digits 2 own))
fields l at type size start own =
    let one = set l (at + 16) type in
    let two = splice one (at + 17) (digits 3 size) in
    join two (at + 20) (at + 22) (digits 2 start) (digits 2 own) (omega (arith, length_digits 2 start))
    ∙ join one (at + 17) (at + 20) (digits 3 size) (digits 2 start ++ digits 2 own) (omega (arith, length_digits 3 size))
    ∙ unfold splice in join l (at + 16) (at + 17) (type ∷ []) (digits 3 size ++ (digits 2 start ++ digits 2 own)) (omega arith)

-- the five writes as one
written : (img : List ℕ) (at : ℕ) (area : List ℕ) (type size start own : ℕ) {one two three four : List ℕ} → length area ≡ 16 → one ≡ splice img at (part area 0 16)
    → two ≡ splice (set one (at + 16) type) (at + 17) (digits 3 size) → three ≡ splice two (at + 20) (digits 2 start) → four ≡ splice three (at + 22) (digits 2 own)
    → four ≡ set_entry img at (entry_with area type size start own)
unfolding set_entry part
written img at area type size start own n p q r t =
    rw (t, r, q, p, take_all 16 area (omega arith)) (fields (splice img at area) at type size start own ∙ join img at (at + 16) area _ (omega arith))

pub returns : goal.returns
returns c =
    let a = c.args in
    written a.image.now a.at a.area a.letter a.size a.start a.identity (omega arith) c.copy_part.ensures c.store.ensures c.store-2.ensures c.store-3.ensures

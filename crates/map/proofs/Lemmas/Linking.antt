-- The map after a value was set, blocks were chained or given one value: what it holds there and elsewhere, and which bytes stay.
-- A map value is two bytes, apart from every other's; the rest is by induction on the blocks. Assumes nothing.
use Rattle.std.specs.Prelude.{◌≡◌, refl, List, [], ◌∷◌, ℕ, ◌≤◌, ◌<◌, length}
use Rattle.std.proofs.Common.{◌∙◌, inl, inr, arith}
use Rattle.laws.specs.Reader.{bytes}
use Rattle.laws.specs.Member.{In, Distinct}
use Rattle.layout.specs.Layouts.{map_offset}
use Rattle.blocks.specs.Lemmas.Numbers.{number_cong}
use Rattle.map.specs.Map.{map_at, set_map, first_or, link_blocks, Outside}
use Rattle.map.specs.Lemmas.Chains.{Linked}
use Rattle.map.specs.Lemmas.Linking.{length-set-map, map_same, off_other, off_outside, link_off, first_below}

-- ---- a chain of blocks

pub link_other : (img bs : List ℕ) (mark c : ℕ) → (In c bs → ⊥) → map_at (bytes (link_blocks img bs mark)) c ≡ map_at (bytes img) c
link_other img bs mark c n = number_cong 2 (bytes img) (bytes (link_blocks img bs mark)) (map_offset c) (λ i x y. link_off img bs mark i (off_other bs c i n x y))

pub link_outside : (img bs : List ℕ) (mark n i : ℕ) → ((b : ℕ) → In b bs → b < n) → Outside n i → bytes (link_blocks img bs mark) i ≡ bytes img i
link_outside img bs mark n i h o = link_off img bs mark i (off_outside bs n i h o)

-- the blocks read back as a chain
pub link_on : (img bs : List ℕ) (mark n : ℕ) → Distinct bs → ((b : ℕ) → In b bs → b < n) → n ≤ 65536 → mark < 65536 → map_offset n ≤ length img
    → Linked (map_at (bytes (link_blocks img bs mark))) bs mark
unfolding link_blocks Linked
link_on img [] mark n d h k m s = tt
link_on img (b ∷ bs) mark n d h k m s =
    let v = first_or bs mark in
    let low : b < n = h b (inl refl) in (
      link_other (set_map img b v) bs mark b d.0 ∙ map_same img b v (omega arith) (first_below bs mark n 65536 (λ x i. h x (inr i)) k m),
      link_on (set_map img b v) bs mark n d.1 (λ x i. h x (inr i)) k m (omega (arith, length-set-map img b v)),
    )

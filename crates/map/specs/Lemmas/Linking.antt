-- The map after a value was set, blocks were chained or given one value: what it holds there and elsewhere, and which bytes stay.
-- A map value is two bytes, apart from every other's; the rest is by induction on the blocks. Assumes nothing.
use Rattle.std.specs.Prelude.{◌≡◌, refl, List, [], ◌∷◌, ◌⊎◌, ℕ, zero, suc, ◌+◌, ◌≤◌, ◌<◌, length, drop, get_or}
use Rattle.std.proofs.Common.{ap, ◌∙◌, inl, inr, add-one, arith, drop_of_length-le, drop-cons}
use Rattle.std.proofs.Math.Decide.{dec_lt}
use Rattle.laws.specs.Lemmas.Splice.{length-splice}
use Rattle.laws.specs.Reader.{bytes}
use Rattle.laws.specs.Lemmas.Reader.{splice_off}
use Rattle.laws.specs.Member.{In}
use Rattle.laws.specs.Lemmas.Member.{dec_in}
use Rattle.layout.specs.Layouts.{map_offset}
use Rattle.blocks.specs.Numbers.{digits}
use Rattle.blocks.specs.Lemmas.Numbers.{number_cong, number_same, digits-over}
use Rattle.map.specs.Map.{map_at, set_map, first_or, link_blocks, set_all, Outside}

-- ---- one map value

pub length-set-map : (img : List ℕ) (b v : ℕ) → length (set_map img b v) ≡ length img
unfolding set_map
length-set-map img b v = length-splice img (map_offset b) (digits 2 v)

pub map_same : (img : List ℕ) (b v : ℕ) → map_offset b + 2 ≤ length img → v < 65536 → map_at (bytes (set_map img b v)) b ≡ v
unfolding set_map
map_same img b v h k = number_same 2 img (map_offset b) v h k

set_off : (img : List ℕ) (b v i : ℕ) → (i < map_offset b) ⊎ (map_offset b + 2 ≤ i) → bytes (set_map img b v) i ≡ bytes img i
unfolding set_map
set_off img b v i h = splice_off img (map_offset b) (digits 2 v) i h

-- storing a value over itself changes nothing, bytes being below 256
pub set_same : (img : List ℕ) (b : ℕ) → map_offset b + 2 ≤ length img → ((i : ℕ) → bytes img i < 256) → set_map img b (map_at (bytes img) b) ≡ img
unfolding set_map
set_same img b h small = digits-over 2 img (map_offset b) h small

-- a byte of no map value of these blocks
abbrev pub Off : List ℕ → ℕ → Type 0
Off bs i = (b : ℕ) → In b bs → (i < map_offset b) ⊎ (map_offset b + 2 ≤ i)

-- as those of another block's value are
off_by : (c b i : ℕ) → (c ≡ b → ⊥) → Dec (c < b) → map_offset c ≤ i → i < map_offset c + 2 → (i < map_offset b) ⊎ (map_offset b + 2 ≤ i)
off_by c b i n (yes p) x y = inl (omega arith)
off_by c b i n (no p) x y = inr (omega arith)

pub map_other : (img : List ℕ) (b v c : ℕ) → (c ≡ b → ⊥) → map_at (bytes (set_map img b v)) c ≡ map_at (bytes img) c
map_other img b v c n = number_cong 2 (bytes img) (bytes (set_map img b v)) (map_offset c) (λ i x y. set_off img b v i (off_by c b i n (dec_lt c b) x y))

pub off_other : (bs : List ℕ) (c i : ℕ) → (In c bs → ⊥) → map_offset c ≤ i → i < map_offset c + 2 → Off bs i
off_other bs c i n x y b j = off_by c b i (λ e. n (rw e j)) (dec_lt c b) x y

pub off_outside : (bs : List ℕ) (n i : ℕ) → ((b : ℕ) → In b bs → b < n) → Outside n i → Off bs i
off_outside bs n i h (inl p) b j = inl (omega arith)
off_outside bs n i h (inr p) b j = inr (omega (arith, h b j))

-- ---- a chain of blocks

pub length_link : (img bs : List ℕ) (mark : ℕ) → length (link_blocks img bs mark) ≡ length img
unfolding link_blocks
length_link img [] mark = refl
length_link img (b ∷ bs) mark = length_link (set_map img b (first_or bs mark)) bs mark ∙ length-set-map img _ _

pub link_off : (img bs : List ℕ) (mark i : ℕ) → Off bs i → bytes (link_blocks img bs mark) i ≡ bytes img i
unfolding link_blocks
link_off img [] mark i o = refl
link_off img (b ∷ bs) mark i o = link_off (set_map img b (first_or bs mark)) bs mark i (λ x k. o x (inr k)) ∙ set_off img b _ i (o b (inl refl))

pub first_below : (bs : List ℕ) (mark n top : ℕ) → ((b : ℕ) → In b bs → b < n) → n ≤ top → mark < top → first_or bs mark < top
unfolding first_or
first_below [] mark n top h k m = m
first_below (b ∷ bs) mark n top h k m = omega (arith, h b (inl refl))

-- ---- one value at some blocks

pub length-set-all : (img bs : List ℕ) (v : ℕ) → length (set_all img bs v) ≡ length img
unfolding set_all
length-set-all img [] v = refl
length-set-all img (b ∷ bs) v = length-set-all (set_map img b v) bs v ∙ length-set-map img b v

pub set-all_off : (img bs : List ℕ) (v i : ℕ) → Off bs i → bytes (set_all img bs v) i ≡ bytes img i
unfolding set_all
set-all_off img [] v i o = refl
set-all_off img (b ∷ bs) v i o = set-all_off (set_map img b v) bs v i (λ x k. o x (inr k)) ∙ set_off img b v i (o b (inl refl))

pub set-all-other : (img bs : List ℕ) (v c : ℕ) → (In c bs → ⊥) → map_at (bytes (set_all img bs v)) c ≡ map_at (bytes img) c
set-all-other img bs v c n = number_cong 2 (bytes img) (bytes (set_all img bs v)) (map_offset c) (λ i x y. set-all_off img bs v i (off_other bs c i n x y))

pub set-all_outside : (img bs : List ℕ) (v n i : ℕ) → ((b : ℕ) → In b bs → b < n) → Outside n i → bytes (set_all img bs v) i ≡ bytes img i
set-all_outside img bs v n i h o = set-all_off img bs v i (off_outside bs n i h o)

-- these blocks hold it
pub set-all-on : (img bs : List ℕ) (v n c : ℕ) → v < 65536 → ((b : ℕ) → In b bs → b < n) → map_offset n ≤ length img → In c bs → map_at (bytes (set_all img bs v)) c ≡ v
unfolding set_all
set-all-on img [] v n c w h s i = absurd i
set-all-on img (b ∷ bs) v n c w h s i = go (set-all-on (set_map img b v) bs v n c w (λ x k. h x (inr k)) (omega (arith, length-set-map img b v))) (dec_in c bs) i
  where
    go : (In c bs → map_at (bytes (set_all (set_map img b v) bs v)) c ≡ v) → Dec (In c bs) → (c ≡ b) ⊎ In c bs → map_at (bytes (set_all (set_map img b v) bs v)) c ≡ v
    go ih (yes p) q = ih p
    go ih (no p) (inl e) =
        let low : b < n = h b (inl refl) in
        set-all-other (set_map img b v) bs v c p ∙ ap (map_at (bytes (set_map img b v))) e ∙ map_same img b v (omega arith) w
    go ih (no p) (inr k) = ih k

-- ---- loops over the blocks: what remains of them from index k on

pub nth_in : (bs : List ℕ) (k : ℕ) → k < length bs → In (get_or bs k 0) bs
nth_in [] k h = absurd (omega arith)
nth_in (b ∷ bs) zero h = inl refl
nth_in (b ∷ bs) (suc k) h = inr (nth_in bs k (omega arith))

pub first_there : (bs : List ℕ) (k mark : ℕ) → k < length bs → first_or (drop k bs) mark ≡ get_or bs k 0
unfolding first_or
first_there bs k mark h = rw (drop-cons bs k 0 h)

pub first_none : (bs : List ℕ) (k mark : ℕ) → length bs ≤ k → first_or (drop k bs) mark ≡ mark
unfolding first_or
first_none bs k mark h = rw (drop_of_length-le bs h)

pub link_end : (img bs : List ℕ) (k mark : ℕ) → length bs ≤ k → link_blocks img (drop k bs) mark ≡ img
unfolding link_blocks
link_end img bs k mark h = rw (drop_of_length-le bs h)

pub link_next : (img bs : List ℕ) (k mark : ℕ) → k < length bs
    → link_blocks img (drop k bs) mark ≡ link_blocks (set_map img (get_or bs k 0) (first_or (drop (k + 1) bs) mark)) (drop (k + 1) bs) mark
unfolding link_blocks
link_next img bs k mark h = rw (drop-cons bs k 0 h, add-one)

pub set-all_end : (img bs : List ℕ) (v k : ℕ) → length bs ≤ k → set_all img (drop k bs) v ≡ img
unfolding set_all
set-all_end img bs v k h = rw (drop_of_length-le bs h)

pub set-all_next : (img bs : List ℕ) (v k : ℕ) → k < length bs → set_all img (drop k bs) v ≡ set_all (set_map img (get_or bs k 0) v) (drop (k + 1) bs) v
unfolding set_all
set-all_next img bs v k h = rw (drop-cons bs k 0 h, add-one)

-- A list with other elements at a place, and a part of a list: what is read inside and outside a write, two writes, loops that write in order.
-- `splice` is the library's repeated `set`, so lengths and order of writes need no range condition. Assumes nothing.
use Rattle.std.specs.Prelude.{◌≡◌, List, ◌++◌, ◌⊎◌, ℕ, ◌+◌, ◌-◌, ◌≤◌, ◌<◌, length, take, drop, get_or}
use Rattle.std.proofs.Common.{sym, ap, ◌∙◌, inl, inr, arith, ext_get_or}
use Rattle.laws.specs.Splice.{splice, part}
use Rattle.laws.specs.Lemmas.Splice.{length-splice, length_part, get_or-splice_below, get_or-splice_past, get_or-splice_in, get_or_part, lent_back, splice-run}

-- ---- a part, read back

-- two parts are equal by their elements
pub part_ext : (l m : List ℕ) (at bt n : ℕ) → at + n ≤ length l → bt + n ≤ length m → ((i : ℕ) → i < n → get_or l (at + i) 0 ≡ get_or m (bt + i) 0) → part l at n ≡ part m bt n
part_ext l m at bt n h k e =
    ext_get_or 0 (part l at n) (part m bt n) (length_part l at n h ∙ sym (length_part m bt n k))
    (λ i p. let q : i < n = omega (arith, length_part l at n h) in get_or_part l at n i q ∙ e i q ∙ sym (get_or_part m bt n i q))

pub part-splice : (l : List ℕ) (at : ℕ) (vs : List ℕ) → at + length vs ≤ length l → part (splice l at vs) at (length vs) ≡ vs
part-splice l at vs h =
    let m = splice l at vs in
    let n = length vs in
    let e : length (part m at n) ≡ n = length_part m at n (omega (arith, length-splice l at vs)) in
    ext_get_or 0 (part m at n) vs e (λ i p. let q : i < n = omega arith in get_or_part m at n i q ∙ get_or-splice_in l at vs i h q)

pub part-splice_below : (l : List ℕ) (at : ℕ) (vs : List ℕ) (from n : ℕ) → from + n ≤ length l → from + n ≤ at → part (splice l at vs) from n ≡ part l from n
part-splice_below l at vs from n h k =
    part_ext (splice l at vs) l from from n (omega (arith, length-splice l at vs)) h (λ i p. get_or-splice_below l at vs (from + i) (omega arith))

pub part-splice_past : (l : List ℕ) (at : ℕ) (vs : List ℕ) (from n : ℕ) → from + n ≤ length l → at + length vs ≤ from → part (splice l at vs) from n ≡ part l from n
part-splice_past l at vs from n h k =
    part_ext (splice l at vs) l from from n (omega (arith, length-splice l at vs)) h (λ i p. get_or-splice_past l at vs (from + i) (omega arith))

-- a part that lies apart from what is written, on either side
pub part-splice_apart : (l : List ℕ) (at : ℕ) (vs : List ℕ) (from n : ℕ) → from + n ≤ length l → (from + n ≤ at) ⊎ (at + length vs ≤ from) → part (splice l at vs) from n ≡ part l from n
part-splice_apart l at vs from n h (inl p) = part-splice_below l at vs from n h p
part-splice_apart l at vs from n h (inr p) = part-splice_past l at vs from n h p

-- a part of a part
pub part-part : (l : List ℕ) (at n from m : ℕ) → at + n ≤ length l → from + m ≤ n → part (part l at n) from m ≡ part l (at + from) m
part-part l at n from m h k =
    part_ext (part l at n) l from (at + from) m (omega (arith, length_part l at n h)) (omega arith)
    (λ i p. get_or_part l at n (from + i) (omega arith) ∙ ap (λ (x : ℕ). get_or l x 0) (let z : at + (from + i) ≡ at + from + i = omega arith in z))

-- ---- a part that was lent and came back

-- a lent part into which a part of another list, given by its end, was copied
pub copy_back : (l : List ℕ) (at n : ℕ) (src : List ℕ) (low : ℕ) {ys : List ℕ} → at + n ≤ length l → low + n ≤ length src
    → ys ≡ take (low + n - low) (drop low src) → take at l ++ (ys ++ drop (at + n - at) (drop at l)) ≡ splice l at (part src low n)
unfolding part
copy_back l at n src low h k e =
    let z : low + n - low ≡ n = omega arith in
    lent_back l at (at + n) (take n (drop low src)) (omega arith) h (length_part src low n k ∙ omega arith) (e ∙ rw z)

-- ---- a loop that writes t's elements in order from index at on: after i of them l is `splice l at (take i t)`

-- its turn by runs
pub splice-turns : (l : List ℕ) (at : ℕ) (t : List ℕ) (i n : ℕ) {m : List ℕ} {j : ℕ} → m ≡ splice l at (take i t) → j ≡ at + i → i ≤ length t → splice m j (part t i n) ≡ splice l at (take (i + n) t)
splice-turns l at t i n e p h = rw (e, p) (splice-run l at t i n h)

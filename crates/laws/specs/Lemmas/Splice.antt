-- A list with other elements at a place, and a part of a list: what is read inside and outside a write, two writes, loops that write in order.
-- `splice` is the library's repeated `set`, so lengths and order of writes need no range condition. Assumes nothing.
use Rattle.std.specs.Prelude.{◌≡◌, refl, List, [], ◌∷◌, ◌++◌, ℕ, zero, suc, ◌+◌, ◌-◌, ◌≤◌, ◌<◌, length, take, drop, get_or, set}
use Rattle.std.proofs.Common.{sym, ap, ◌∙◌, append_assoc, add-suc, suc-add, add-zero, zero-add, add-one, arith, length-take, length-drop, length-set, take_all, take-suc, set-set, get_or-set_same, get_or-set_other, length-take-le, get_or-drop, get_or-take, ext_get_or, drop-drop, take-add}
use Rattle.std.proofs.lemmas.List.Edits.{sets, sets-eq}
use Rattle.std.proofs.Math.Seq.{length-sets}
use Rattle.std.proofs.lemmas.List.{set_comm}
use Rattle.laws.specs.Splice.{splice, part}

-- ---- lengths

pub length-splice : (l : List ℕ) (at : ℕ) (vs : List ℕ) → length (splice l at vs) ≡ length l
unfolding splice
length-splice l at vs = length-sets l at vs

pub length_part : (l : List ℕ) (at n : ℕ) → at + n ≤ length l → length (part l at n) ≡ n
unfolding part
length_part l at n h = simp (length-take, length-drop) (omega arith)

-- ---- one element, outside what was written and inside

pub get_or-splice_below : (l : List ℕ) (at : ℕ) (vs : List ℕ) (i : ℕ) → i < at → get_or (splice l at vs) i 0 ≡ get_or l i 0
unfolding splice
get_or-splice_below l at [] i h = refl
get_or-splice_below l at (v ∷ vs) i h = get_or-splice_below (set l at v) (suc at) vs i (omega arith) ∙ get_or-set_other l at i v 0 (λ e. omega arith)

pub get_or-splice_past : (l : List ℕ) (at : ℕ) (vs : List ℕ) (i : ℕ) → at + length vs ≤ i → get_or (splice l at vs) i 0 ≡ get_or l i 0
unfolding splice
get_or-splice_past l at [] i h = refl
get_or-splice_past l at (v ∷ vs) i h = get_or-splice_past (set l at v) (suc at) vs i (omega arith) ∙ get_or-set_other l at i v 0 (λ e. omega arith)

pub get_or-splice_in : (l : List ℕ) (at : ℕ) (vs : List ℕ) (i : ℕ) → at + length vs ≤ length l → i < length vs → get_or (splice l at vs) (at + i) 0 ≡ get_or vs i 0
unfolding splice
get_or-splice_in l at [] i h k = absurd (omega arith)
get_or-splice_in l at (v ∷ vs) zero h k =
    ap (λ (n : ℕ). get_or (splice (set l at v) (suc at) vs) n 0) (omega arith) ∙ get_or-splice_below (set l at v) (suc at) vs at (omega arith) ∙ get_or-set_same l at v 0 (omega arith)
get_or-splice_in l at (v ∷ vs) (suc i) h k =
    ap (λ (n : ℕ). get_or (splice (set l at v) (suc at) vs) n 0) (add-suc at i ∙ sym (suc-add at i))
    ∙ get_or-splice_in (set l at v) (suc at) vs i (omega (arith, length-set l at v)) (omega arith)

pub get_or_part : (l : List ℕ) (at n i : ℕ) → i < n → get_or (part l at n) i 0 ≡ get_or l (at + i) 0
unfolding part
get_or_part l at n i h = rw (get_or-take, get_or-drop)

-- ---- two writes

set-splice : (l : List ℕ) (i v bt : ℕ) (us : List ℕ) → i < bt → splice (set l i v) bt us ≡ set (splice l bt us) i v
unfolding splice
set-splice l i v bt [] h = refl
set-splice l i v bt (u ∷ us) h = rw (set_comm l i bt v u (λ e. omega arith)) (set-splice (set l bt u) i v (suc bt) us (omega arith))

-- a write that goes on where another ends, whatever is written
pub sets_append : {A : Type 0} (l : List A) (at : ℕ) (vs us : List A) → sets (sets l at vs) (at + length vs) us ≡ sets l at (vs ++ us)
sets_append l at [] us = rw (add-zero at)
sets_append l at (v ∷ vs) us = rw (add-suc at (length vs), ← suc-add at (length vs)) (sets_append (set l at v) (suc at) vs us)

-- a write that goes on where another ends
pub splice-append : (l : List ℕ) (at : ℕ) (vs us : List ℕ) → splice (splice l at vs) (at + length vs) us ≡ splice l at (vs ++ us)
unfolding splice
splice-append l at vs us = sets_append l at vs us

-- a write over another of the same length
pub splice-over : (l : List ℕ) (at : ℕ) (us vs : List ℕ) → length us ≡ length vs → splice (splice l at us) at vs ≡ splice l at vs
unfolding splice
splice-over l at [] vs e = refl
splice-over l at (u ∷ us) [] e = absurd (omega arith)
splice-over l at (u ∷ us) (v ∷ vs) e =
    rw (← set-splice (set l at u) at v (suc at) us (omega arith), set-set l at u v) (splice-over (set l at v) (suc at) us vs (omega arith))

-- a write of the whole
pub splice_all : (l t : List ℕ) → length t ≡ length l → splice l 0 t ≡ t
splice_all l t e = ext_get_or 0 (splice l 0 t) t (length-splice l 0 t ∙ sym e) (λ i h. ap (λ (k : ℕ). get_or (splice l 0 t) k 0) (sym (zero-add i)) ∙ get_or-splice_in l 0 t i (omega arith) (omega (arith, length-splice l 0 t)))

-- ---- a part that was lent and came back

pub splice_back : (l : List ℕ) (at k : ℕ) (vs : List ℕ) → at + k ≤ length l → length vs ≡ k → take at l ++ (vs ++ drop k (drop at l)) ≡ splice l at vs
unfolding splice
splice_back l at k vs h e = rw (drop-drop k at l, ← e) (sym (append_assoc (take at l) vs (drop (at + length vs) l)) ∙ sym (sets-eq vs l at (omega arith)))

-- the same of a part that is given by its end, and of which a callee said what it holds
pub lent_back : (l : List ℕ) (at e : ℕ) {ys : List ℕ} (vs : List ℕ) → at ≤ e → e ≤ length l → length vs ≡ e - at → ys ≡ vs → take at l ++ (ys ++ drop (e - at) (drop at l)) ≡ splice l at vs
lent_back l at e vs h k n w = rw w (splice_back l at (e - at) vs (omega arith) n)

-- a lent part's length
pub length-lent : (l : List ℕ) (at e : ℕ) → e ≤ length l → length (take (e - at) (drop at l)) ≡ e - at
length-lent l at e k = simp (length-take, length-drop) (omega arith)

-- ---- a loop that writes t's elements in order from index at on: after i of them l is `splice l at (take i t)`

-- its start
pub splice_none : (l : List ℕ) (at : ℕ) → l ≡ splice l at []
unfolding splice
splice_none l at = refl

-- one element more
pub splice_more : (l : List ℕ) (at : ℕ) (t : List ℕ) (i v : ℕ) → i < length t → v ≡ get_or t i 0 → set (splice l at (take i t)) (at + i) v ≡ splice l at (take (i + 1) t)
unfolding splice
splice_more l at t i v h e =
    let n : length (take i t) ≡ i = length-take-le i t (omega arith) in
    rw (e, add-one, take-suc t i 0 h) (ap (λ (k : ℕ). set (splice l at (take i t)) (at + k) (get_or t i 0)) (sym n) ∙ splice-append l at (take i t) (get_or t i 0 ∷ []))

-- its turn, with the index as the code has it
pub splice-turn : (l : List ℕ) (at : ℕ) (t : List ℕ) (i : ℕ) {m : List ℕ} {j v : ℕ} → m ≡ splice l at (take i t) → j ≡ at + i → i < length t → v ≡ get_or t i 0 → set m j v ≡ splice l at (take (i + 1) t)
splice-turn l at t i e p h w = rw (e, p) (splice_more l at t i _ h w)

-- a run more
pub splice-run : (l : List ℕ) (at : ℕ) (t : List ℕ) (i n : ℕ) → i ≤ length t → splice (splice l at (take i t)) (at + i) (part t i n) ≡ splice l at (take (i + n) t)
unfolding part
splice-run l at t i n h =
    let e : length (take i t) ≡ i = length-take-le i t h in
    rw (take-add i n t) (ap (λ (k : ℕ). splice (splice l at (take i t)) (at + k) (take n (drop i t))) (sym e) ∙ splice-append l at (take i t) (take n (drop i t)))

-- its end, where the whole of l is written
pub splice-done : (l t : List ℕ) (i : ℕ) {m : List ℕ} → m ≡ splice l 0 (take i t) → length t ≤ i → length t ≡ length l → m ≡ t
splice-done l t i e h n = e ∙ rw (take_all i t h) (splice_all l t n)

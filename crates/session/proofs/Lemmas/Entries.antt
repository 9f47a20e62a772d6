-- What an entry comes to, by the tests that the code makes on its bytes.
-- By the tests in the definition's order. Assumes nothing.
use Rattle.std.specs.Prelude.{◌≡◌, refl, Bool, true, false, List, [], ℕ, zero, suc, ◌+◌, ◌-◌, ◌*◌, ◌/◌, ◌≤◌, ◌<◌, min, length, get_or, take, drop, ◌++◌}
use Rattle.std.proofs.Common.{sym, ap, ◌∙◌, add-one, arith, take-append-drop, drop-drop}
use Rattle.std.specs.Simd.{first_chunks}
use Rattle.laws.specs.Truth.{pick}
use Rattle.laws.specs.Splice.{splice, part}
use Rattle.laws.specs.Lemmas.Splice.{length_part, lent_back, length-lent}
use Rattle.session.specs.Script.{entry_call, after_entry, Entered, entered, after_run, run_from}
use Rattle.session.specs.Lemmas.Entries.{lent-part, stopped}

-- ---- the entries in a row

run_next : (script pool : List ℕ) (n k : ℕ) (img out : List ℕ) {e : Entered} → k < n → e ≡ entered img (part script (20 * k) 20) pool (part out (1044 * k) 1044)
    → run_from script pool (n - k) k img out
    ≡ pick e.made (run_from script pool (n - (k + 1)) (k + 1) e.state (splice out (1044 * k) e.shown)) (after_run k out img)
unfolding run_from
run_next script pool n k img out h e =
    let s : n - k ≡ suc (n - (k + 1)) = omega arith in
    rw (s, add-one k, e) refl

-- a part written back over itself
own_part : (l : List ℕ) (at n : ℕ) → at + n ≤ length l → splice l at (part l at n) ≡ l
unfolding part
own_part l at n h =
    let w : at + n - at ≡ n = omega arith in
    sym (lent_back l at (at + n) (take n (drop at l)) (omega arith) h (length_part l at n h ∙ sym w) refl) ∙ rw (w, take-append-drop, take-append-drop) refl

-- the entry, with the output's part as the code is lent it
lent-entry : (script pool img out : List ℕ) (k : ℕ) {entry : List ℕ} {e : Entered} → entry ≡ part script (20 * k) 20
    → e ≡ entered img entry pool (take (1044 * k + 1044 - 1044 * k) (drop (1044 * k) out)) → e ≡ entered img (part script (20 * k) 20) pool (part out (1044 * k) 1044)
lent-entry script pool img out k s e = rw (s, lent-part out (1044 * k) 1044) at e

-- after a call, and after an entry that is none
pub run_more : (script pool : List ℕ) (n k : ℕ) (img out : List ℕ) {entry : List ℕ} {made : Bool} {last after : List ℕ} → k < n → entry ≡ part script (20 * k) 20 → made ≡ true
    → after_entry made last after ≡ entered img entry pool (take (1044 * k + 1044 - 1044 * k) (drop (1044 * k) out))
    → run_from script pool (n - k) k img out ≡ run_from script pool (n - (k + 1)) (k + 1) after (splice out (1044 * k) last)
run_more script pool n k img out {last = last} {after = after} h s m e =
    run_next script pool n k img out h (lent-entry script pool img out k s (ap (λ (b : Bool). after_entry b last after) (sym m) ∙ e))

pub run_stop : (script pool : List ℕ) (n k : ℕ) (img out : List ℕ) {entry : List ℕ} {made : Bool} {last after : List ℕ} → k < n → 1044 * k + 1044 ≤ length out
    → entry ≡ part script (20 * k) 20 → made ≡ false → after_entry made last after ≡ entered img entry pool (take (1044 * k + 1044 - 1044 * k) (drop (1044 * k) out))
    → run_from script pool (n - k) k img out ≡ after_run k (splice out (1044 * k) last) after
run_stop script pool n k img out {last = last} {after = after} h f s m e =
    let own = lent-entry script pool img out k s (ap (λ (b : Bool). after_entry b last after) (sym m) ∙ e) in
    let kept = stopped img (part out (1044 * k) 1044) (entry_call (part script (20 * k) 20) pool (part (part out (1044 * k) 1044) 20 1024)) own in
    run_next script pool n k img out h own ∙ rw (kept.0, kept.1, own_part out (1044 * k) 1044 f) refl

-- the k-th entry of the script
pub chunk_at : (n m k : ℕ) (l : List ℕ) → k < m → get_or (first_chunks n m l) k [] ≡ part l (n * k) n
unfolding part
chunk_at n zero k l h = absurd (omega (arith, h))
chunk_at n (suc m) zero l h = ap (λ j. take n (drop j l)) {x = 0} {y = n * 0} (omega arith)
chunk_at n (suc m) (suc k) l h =
    let s : n + n * k ≡ n * suc k = omega arith in
    chunk_at n m k (drop n l) (omega arith) ∙ ap (take n) (drop-drop (n * k) n l ∙ ap (λ j. drop j l) s)

pub own_entry : (script : List ℕ) {es : List (List ℕ)} (k n m : ℕ) → es ≡ first_chunks 20 (length script / 20) script → length es ≡ length script / 20 → n ≡ min (length es) m → k < n
    → get_or es k [] ≡ part script (20 * k) 20
own_entry script k n m e l t h = ap (λ (xs : List (List ℕ)). get_or xs k []) e ∙ chunk_at 20 (length script / 20) k script (omega arith)

-- a call's part of the output, written by it and given back
pub part_back : (out shown : List ℕ) (k : ℕ) → 1044 * k + 1044 ≤ length out → length shown ≡ length (take (1044 * k + 1044 - 1044 * k) (drop (1044 * k) out))
    → take (1044 * k) out ++ (shown ++ drop (1044 * k + 1044 - 1044 * k) (drop (1044 * k) out)) ≡ splice out (1044 * k) shown
part_back out shown k fit e =
    lent_back out (1044 * k) (1044 * k + 1044) shown (omega arith) fit (e ∙ length-lent out (1044 * k) (1044 * k + 1044) fit) refl

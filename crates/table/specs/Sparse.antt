-- Images that are zeros but for some bytes: such an image is a real list, and its check is computed from the bytes that are set.
-- The list reads as the bytes do, so the check of one is the check of the other. Assumes nothing.
use Rattle.std.specs.Prelude.{◌≡◌, refl, Bool, true, false, List, ℕ, zero, suc, ◌+◌, ◌-◌, ◌/◌, ◌%◌, ◌<◌, length, get_or, set, replicate, T, ltb, eqb}
use Rattle.std.proofs.Common.{ap₂, ◌∙◌, length-set, get_or-set_same, get_or-set_other, ltb→lt, eqb-true}
use Rattle.std.proofs.Math.Path.{subst⁻¹, fun_ext}
use Rattle.std.proofs.lemmas.List.{length-replicate}
use Rattle.std.proofs.lemmas.Bool.{eqb-false}
use Rattle.laws.specs.Truth.{pick, both}
use Rattle.laws.specs.Lemmas.Padded.{get_or_zeros}
use Rattle.laws.specs.Reader.{bytes}
use Rattle.layout.specs.declared.Layout.{Layout}
use Rattle.layout.specs.Layouts.{map_offset, slot_offset}
use Rattle.rules.specs.Check.{check_head, check_of}

-- Zeros, and bytes set one after another at offsets.
pub data Sparse : Type 0 where
  zeros : Sparse
  byte : ℕ → ℕ → Sparse → Sparse

-- The list of n bytes.
abbrev pub list_of : ℕ → Sparse → List ℕ
list_of n zeros = replicate n 0
list_of n (byte at v s) = set (list_of n s) at v

-- The byte at an offset.
abbrev pub reads : Sparse → ℕ → ℕ
reads zeros i = 0
reads (byte at v s) i = pick (eqb i at) v (reads s i)

-- Every offset lies below n.
abbrev pub inside : ℕ → Sparse → Bool
inside n zeros = true
inside n (byte at v s) = both (ltb at n) (inside n s)

pub length_list : (n : ℕ) (s : Sparse) → length (list_of n s) ≡ n
length_list n zeros = length-replicate n 0
length_list n (byte at v s) = length-set (list_of n s) at v ∙ length_list n s

both_left : (a b : Bool) → T (both a b) → T a
both_left true b t = tt
both_left false b t = t

both_right : (a b : Bool) → T (both a b) → T b
both_right true b t = t
both_right false b t = absurd t

pub list_reads : (n : ℕ) (s : Sparse) → T (inside n s) → (i : ℕ) → bytes (list_of n s) i ≡ reads s i
list_reads n zeros t i = get_or_zeros n i
list_reads n (byte at v s) t i = go (list_reads n s (both_right (ltb at n) (inside n s) t) i) (eqb i at) refl
  where
    at<n : at < length (list_of n s)
    at<n = subst⁻¹ (λ (m : ℕ). at < m) (length_list n s) (ltb→lt at n (both_left (ltb at n) (inside n s) t))

    go : get_or (list_of n s) i 0 ≡ reads s i → (b : Bool) → eqb i at ≡ b → get_or (set (list_of n s) at v) i 0 ≡ pick b v (reads s i)
    go ih true e = subst⁻¹ (λ (k : ℕ). get_or (set (list_of n s) at v) k 0 ≡ v) (eqb-true i at e) (get_or-set_same (list_of n s) at v 0 at<n)
    go ih false e = get_or-set_other (list_of n s) at i v 0 (eqb-false i at e) ∙ ih

pub sparse_check : (n : ℕ) (s : Sparse) → T (inside n s) → check_of (list_of n s) ≡ check_head n (reads s)
sparse_check n s t = ap₂ check_head (length_list n s) (fun_ext (list_reads n s t))

-- ---- disks

-- n bytes of v from an offset on
abbrev pub run : ℕ → ℕ → ℕ → Sparse → Sparse
run zero at v s = s
run (suc n) at v s = byte at v (run n (suc at) v s)

-- a number of two bytes
abbrev pub word : ℕ → ℕ → Sparse → Sparse
word at v s = byte at (v % 256) (byte (at + 1) (v / 256) s)

-- a block's map value
abbrev pub value : ℕ → ℕ → Sparse → Sparse
value block v s = word (map_offset block) v s

-- a slot's identity
abbrev pub identity : Layout → ℕ → ℕ → Sparse → Sparse
identity l slot v s = word (slot_offset l slot + 22) v s

-- the identities of the slots below n, and the map values of the system blocks below n
abbrev identities : Layout → ℕ → Sparse → Sparse
identities l zero s = s
identities l (suc n) s = identity l n l.identity (identities l n s)

abbrev systems : Layout → ℕ → Sparse → Sparse
systems l zero s = s
systems l (suc n) s = value n l.reserved (systems l n s)

-- A disk without files: with right identities, or a first directory that is passed over, and with right system values.
abbrev pub blank : Layout → Sparse
blank l = systems l l.system (pick l.second (byte 16 255 zeros) (identities l l.slots zeros))

-- a slot's type
abbrev pub typed : Layout → ℕ → ℕ → Sparse → Sparse
typed l slot v s = byte (slot_offset l slot + 16) v s

-- A file in a slot: its name is one stored byte over and over, its type the lowest, its identity the layout's.
abbrev pub file : Layout → ℕ → ℕ → ℕ → ℕ → Sparse → Sparse
file l slot letter size start s =
    let at = slot_offset l slot in
    run l.letters at letter
    (run (15 - l.letters) (at + l.letters) l.pad
    (byte (at + 15) l.last
    (typed l slot l.least
    (word (at + 17) (size % 65536) (byte (at + 19) (size / 65536)
    (word (at + 20) start (identity l slot l.identity s)))))))

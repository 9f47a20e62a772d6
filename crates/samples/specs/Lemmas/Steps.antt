-- What the code finds, one test or call after another, is what the definitions of the faults and of the calls say.
-- Each step is a rewriting by what the code has in hand. Assumes nothing.
use Rattle.std.specs.Prelude.{◌≡◌, Option, MatchOption, pos, Bool, true, false, not, ◌&&◌, List, ◌++◌, ℕ, ◌+◌, ◌-◌, ◌≤◌, ◌<◌, eqb, ℤ, take, drop, Ok, Some, Err, None}
use Rattle.std.proofs.Math.Path.{refl, ap}
use Rattle.std.proofs.Common.{sym, ◌∙◌, arith, length-drop, take_all, length-take-le, lt-ltb, le-ltb, eq-eqb, ne_eqb}
use Rattle.std.proofs.Math.Bool.{not-not}
use Rattle.std.proofs.Math.Nat.{sub-zero, zero-add}
use Rattle.std.proofs.Math.ListN.{length}
use Rattle.std.proofs.Math.Seq.{sets}
use Rattle.std.specs.List.{AllWithin, HoldsAt}
use Rattle.words.specs.Words.{holds}
use Rattle.laws.specs.Truth.{both}
use Rattle.laws.specs.Refusals.{refusal_at, Filled, filled, unless}
use Rattle.laws.specs.Scan.{lowest, all, Lowest}
use Rattle.laws.specs.Lemmas.Scan.{over_next, all_end, all_stop, all→, →nowhere, lowest_is}
use Rattle.laws.specs.Splice.{splice, part}
use Rattle.laws.specs.Lemmas.Splice.{splice-append}
use Rattle.laws.specs.Reader.{bytes}
use Rattle.blocks.specs.Numbers.{number}
use Rattle.rows.specs.Rows.{rows_fault}
use Rattle.headers.specs.Tables.{rows_of}
use Rattle.headers.specs.declared.Table.{Table}
use Rattle.samples.specs.declared.Sampler.{Sampler}
use Rattle.samples.specs.declared.Sampler.TheVariants.{S900, S1000}
use Rattle.samples.specs.Samples.{header_size, count_offset, table_of, data_size, is_whole, count_in, file_size, packed, unpacked, header_of, words_of, head_fault, file_fault, header_fault, is_short, is_outside, range_fault, room_fault, unpack_of, pack_of}
use Rattle.samples.specs.Rules.{HeaderRules, file-accepted, header_accepted}

-- the number of words lies inside the header
pub count-inside : (sampler : Sampler) → count_offset sampler + 4 ≤ header_size sampler
count-inside S900 = omega arith
count-inside S1000 = omega arith

-- ---- the faults

pub right_whole : (sampler : Sampler) (count : ℕ) (t : Bool) {w : Bool} → w ≡ is_whole sampler count → w ≡ true → t ≡ both (is_whole sampler count) t
right_whole sampler count t e h = rw (sym e ∙ h) refl

pub right_odd : (sampler : Sampler) (count : ℕ) (t : Bool) {w : Bool} → w ≡ is_whole sampler count → w ≡ false → false ≡ both (is_whole sampler count) t
right_odd sampler count t e h = rw (sym e ∙ h) refl

module _ (sampler : Sampler) (header : List ℕ) {right : Bool} where
  pub head_right : {table : Table} {f : Lowest} → right ≡ true → table ≡ table_of sampler → f ≡ rows_fault header 0 (rows_of table) → f ≡ head_fault sampler header right
  unfolding head_fault
  head_right e p q = rw (e, q, p, head_fault) refl

  pub head_wrong : {at : ℕ} → right ≡ false → at ≡ count_offset sampler → Some at ≡ head_fault sampler header right
  unfolding head_fault
  head_wrong e p = rw (e, p, head_fault) refl

pub header_part : (sampler : Sampler) (file : List ℕ) {size : ℕ} → size ≡ header_size sampler → take (size - 0) file ≡ header_of sampler file
header_part sampler file {size} e = rw (sub-zero size, e) refl

module _ (sampler : Sampler) (file : List ℕ) {size : ℕ} (e : size ≡ header_size sampler) where
  pub file_short : length file < size → Some 0 ≡ file_fault sampler file
  unfolding file_fault
  file_short h = rw (lt-ltb (length file) (header_size sampler) (rw e at h), file_fault) refl

  pub header_length : size ≤ length file → length (take (size - 0) file) ≡ header_size sampler
  header_length h = ap length (header_part sampler file e) ∙ length-take-le (header_size sampler) file (rw e at h)

  pub file_head : {count due : ℕ} {right : Bool} {f : Lowest} → size ≤ length file → count ≡ number 4 (bytes (take (size - 0) file)) (count_offset sampler) → due ≡ data_size sampler count
      → right ≡ both (is_whole sampler count) (eqb (length file) (size + due)) → f ≡ head_fault sampler (take (size - 0) file) right → f ≡ file_fault sampler file
  unfolding file_fault
  file_head h p q r z =
      let k : header_size sampler ≤ length file = rw e at h in
      rw (le-ltb (length file) (header_size sampler) k, file_fault, z, r, q, p, header_part sampler file e, e) refl

module _ (sampler : Sampler) (header : List ℕ) (given : ℕ) {size : ℕ} (e : size ≡ header_size sampler) where
  pub header_size_is : (length header ≡ size → ⊥) → Some 0 ≡ header_fault sampler header given
  unfolding header_fault
  header_size_is h = let k : length header ≡ header_size sampler → ⊥ = rw e at h in rw (ne_eqb (length header) (header_size sampler) k, header_fault) refl

  pub header_head : {count : ℕ} {right : Bool} {f : Lowest} → length header ≡ size → count ≡ count_in sampler header → right ≡ both (is_whole sampler count) (eqb count given)
      → f ≡ head_fault sampler header right → f ≡ header_fault sampler header given
  unfolding header_fault
  header_head h p r z = rw (eq-eqb (length header) (header_size sampler) (h ∙ e), header_fault, z, r, p) refl

-- ---- the words' range

-- the words below i are passed: short says whether all of them pass
abbrev pub Passed : (ℕ → Bool) → ℕ → ℕ → Bool → Type 0
Passed f n i short = (i ≤ n) × (both short (all f i (n - i)) ≡ all f 0 n)

pub passed_none : (f : ℕ → Bool) (n : ℕ) → Passed f n 0 true
passed_none f n = (omega arith, rw (sub-zero n) refl)

both_no : (t : Bool) → both t false ≡ false
both_no true = refl
both_no false = refl

both_yes : (t : Bool) → both t true ≡ t
both_yes true = refl
both_yes false = refl

both_and : (s b t : Bool) → both (s && b) t ≡ both s (both b t)
both_and true b t = refl
both_and false b t = refl

module _ (f : ℕ → Bool) (n i : ℕ) (short : Bool) (p : Passed f n i short) where
  -- the next word, which passes or not
  pub passed_more : (b : Bool) → i < n → b ≡ f i → Passed f n (i + 1) (short && b)
  unfolding all
  passed_more b h e =
      let rest = all f (i + 1) (n - (i + 1)) in (
        omega arith,
        both_and short b rest
            ∙ ap (both short) (ap (λ (t : Bool). both t rest) e ∙ sym (over_next (λ k r. both (f k) r) true i n h)) ∙ p.1,
      )

  pub passed_not : i < n → not (f i) ≡ true → Passed f n (i + 1) false
  passed_not h e = (omega arith, sym (both_no short) ∙ ap (both short) (sym (all_stop f i n h (sym (not-not (f i)) ∙ ap not e))) ∙ p.1)

  pub passed_all : n ≤ i → short ≡ all f 0 n
  passed_all h = sym (both_yes short) ∙ ap (both short) (sym (all_end f i n h)) ∙ p.1

-- the position of the first word that is not held
pub outside_found : (words : List ℤ) (found : Option ℕ)
    → MatchOption found (AllWithin (λ w. holds 4096 w ≡ true) words 0 (length words))
    (λ i. (i < length words) × HoldsAt (λ w. holds 4096 w ≡ false) words i × AllWithin (λ w. holds 4096 w ≡ true) words 0 i)
    → found ≡ lowest (is_outside words) 0 (length words)
outside_found words None h = sym (→nowhere (is_outside words) 0 (length words) (λ j a b. ap not (h j (pos 0) a (omega arith))))
outside_found words (Some i) h =
    sym (lowest_is (is_outside words) 0 (length words) i (omega arith) (omega (arith, h.0)) (ap not (h.1 (pos 0))) (λ j a b. ap not (h.2 j (pos 0) a b)))

module _ {sampler : Sampler} (words : List ℤ) (e : sampler ≡ S900) {short : Bool} (p : short ≡ all (is_short words) 0 (length words)) where
  pub range_short : short ≡ true → None ≡ range_fault sampler words
  range_short t = rw e (sym (→nowhere (is_outside words) 0 (length words) (λ k h l. ap not (all→ (is_short words) 0 (length words) (sym p ∙ t) k h l))))

-- ---- refusals in order

module _ {A : Type 0} (no : ℕ) (output : List A) (rest : Filled A) {f : Lowest} where
  stopped : {place : ℕ} → f ≡ Some place → filled (Err (refusal_at no place)) output ≡ unless no f output rest
  stopped e = rw e refl

  passed : f ≡ None → rest ≡ unless no f output rest
  passed e = rw e refl

short_room : (room due : ℕ) → room < due → room_fault room due ≡ Some 0
short_room room due h = rw (lt-ltb room due h) refl

pub enough_room : (room due : ℕ) → due ≤ room → room_fault room due ≡ None
enough_room room due h = rw (le-ltb room due h) refl

-- a part that goes to the end
pub rest_all : (l : List ℕ) (at : ℕ) → take (length l - at) (drop at l) ≡ drop at l
rest_all l at = take_all (length l - at) (drop at l) (omega (arith, length-drop at l))

-- ---- unpacking

module _ (sampler : Sampler) (file : List ℕ) (words : List ℤ) where
  pub unpack_refused : {f : Lowest} {place : ℕ} → f ≡ file_fault sampler file → f ≡ Some place → filled (Err (refusal_at 18 place)) words ≡ unpack_of sampler file words
  unfolding unpack_of
  unpack_refused e h = stopped 18 words _ (sym e ∙ h)

-- an accepted file, and its header's size as the code has it
pub record Opened (sampler : Sampler) (file : List ℕ) (size : ℕ) : Type 0 where
  pub fault : file_fault sampler file ≡ None
  pub size_is : size ≡ header_size sampler

-- the header is there
pub opened_long : (sampler : Sampler) (file : List ℕ) {size : ℕ} → Opened sampler file size → size ≤ length file
opened_long sampler file o = rw o.size_is (omega (arith, ((file-accepted sampler file).0 o.fault).long))

module _ (sampler : Sampler) (file : List ℕ) (words : List ℤ) {size count : ℕ} (o : Opened sampler file size) (n : count ≡ number 4 (bytes (take (size - 0) file)) (count_offset sampler)) where
  count_is : count ≡ count_in sampler (header_of sampler file)
  count_is = n ∙ ap (count_in sampler) (header_part sampler file o.size_is)

  -- the data are there
  pub unpack_room : data_size sampler count ≤ length (take (length file - size) (drop size file))
  unpack_room =
      let e : length file ≡ size + data_size sampler count = rw (count_is, o.size_is) ((file-accepted sampler file).0 o.fault).long in
      rw (rest_all file size, length-drop size file) (omega arith)

  pub unpack_short : length words < count → filled (Err (refusal_at 21 0)) words ≡ unpack_of sampler file words
  unfolding unpack_of
  unpack_short k = stopped 21 words _ (short_room (length words) _ (rw count_is at k)) ∙ passed 18 words _ o.fault

  pub unpack_done : {after : List ℤ} → count ≤ length words → after ≡ sets words 0 (unpacked sampler (bytes (take (length file - size) (drop size file))) count)
      → filled (Ok count) after ≡ unpack_of sampler file words
  unfolding unpack_of
  unpack_done {after} k a =
      let there : after ≡ sets words 0 (words_of sampler file) = a ∙ rw (rest_all file size, count_is, o.size_is) refl in
      rw (there, count_is) (passed 21 words _ (enough_room (length words) _ (rw count_is at k))) ∙ passed 18 words _ o.fault

-- ---- packing

module _ (sampler : Sampler) (header : List ℕ) (words : List ℤ) (out : List ℕ) {f : Lowest} (e : f ≡ header_fault sampler header (length words)) where
  pub pack_refused : {place : ℕ} → f ≡ Some place → filled (Err (refusal_at 18 place)) out ≡ pack_of sampler header words out
  unfolding pack_of
  pack_refused h = stopped 18 out _ (sym e ∙ h)

  pub pack_outside : {g : Lowest} {place : ℕ} → f ≡ None → g ≡ range_fault sampler words → g ≡ Some place → filled (Err (refusal_at 19 place)) out ≡ pack_of sampler header words out
  unfolding pack_of
  pack_outside h r k = stopped 19 out _ (sym r ∙ k) ∙ passed 18 out _ (sym e ∙ h)

-- an accepted header and words, and the sizes as the code has them
pub record Ready (sampler : Sampler) (header : List ℕ) (words : List ℤ) (size count rest : ℕ) : Type 0 where
  pub fault : header_fault sampler header (length words) ≡ None
  pub range : range_fault sampler words ≡ None
  pub size_is : size ≡ header_size sampler
  pub count_is : count ≡ count_in sampler header
  pub rest_is : rest ≡ data_size sampler count

module _ (sampler : Sampler) (header : List ℕ) (words : List ℤ) (out : List ℕ) {size count rest : ℕ} (r : Ready sampler header words size count rest) where
  rules : HeaderRules sampler header × (count_in sampler header ≡ length words)
  rules = (header_accepted sampler header (length words)).0 r.fault

  pub ready_header : length header ≡ size
  ready_header = rules.0.size ∙ sym r.size_is

  pub ready_rest : rest ≡ data_size sampler (length words)
  ready_rest = r.rest_is ∙ ap (data_size sampler) (r.count_is ∙ rules.1)

  due : size + rest ≡ file_size sampler (length words)
  due = rw (r.size_is, ready_rest) refl

  pub pack_short : length out < size + rest → filled (Err (refusal_at 21 0)) out ≡ pack_of sampler header words out
  unfolding pack_of
  pack_short h = stopped 21 out _ (short_room (length out) _ (rw due at h)) ∙ passed 19 out _ r.range ∙ passed 18 out _ r.fault

  pub pack_done : {mid end : List ℕ} → size + rest ≤ length out → mid ≡ splice out 0 (part header 0 size) → end ≡ splice mid size (packed sampler words)
      → filled (Ok (size + rest)) end ≡ pack_of sampler header words out
  unfolding pack_of part
  pack_done {mid} {end} h a b =
      let first : mid ≡ splice out 0 header = a ∙ ap (splice out 0) (take_all size header (omega (arith, ready_header))) in
      let there : end ≡ splice out 0 (header ++ packed sampler words) = b ∙ rw (first, ← ready_header, ← zero-add (length header)) (splice-append out 0 header (packed sampler words)) in
      rw (there, due) (passed 21 out _ (enough_room (length out) _ (rw due at h))) ∙ passed 19 out _ r.range ∙ passed 18 out _ r.fault

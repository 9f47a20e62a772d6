-- Which headers and files are accepted (document 01, "The files"), as rules that a client can read: exactly those in which refusal 18 finds no place.
-- By the tests in the order in which they are made. Assumes nothing.
use Rattle.std.specs.Prelude.{◌≡◌, refl, Bool, true, false, List, ◌↔◌, ℕ, ◌≤◌, ltb, eqb, length, Some, None}
use Rattle.std.proofs.Common.{arith, length-take-le, le-ltb, ltb-false, eq-eqb, eqb-true}
use Rattle.laws.specs.Truth.{pick, both}
use Rattle.laws.specs.Lemmas.Truth.{both_true}
use Rattle.rows.specs.Failing.{AllKept}
use Rattle.rows.proofs.Failing.{faultless}
use Rattle.headers.specs.Tables.{rows_of}
use Rattle.samples.specs.declared.Sampler.{Sampler}
use Rattle.samples.specs.Samples.{header_size, count_offset, table_of, is_whole, count_in, file_size, header_of, head_fault, file_fault, header_fault}
use Rattle.laws.specs.Scan.{Lowest}

-- A header: its size, a number of words that the sampler has, and every row of its table kept.
pub record HeaderRules (sampler : Sampler) (header : List ℕ) : Type 0 where
  pub size : length header ≡ header_size sampler
  pub whole : is_whole sampler (count_in sampler header) ≡ true
  pub rows : AllKept header 0 (rows_of (table_of sampler))

-- A file: its header, and the length that the number of words makes.
pub record SampleRules (sampler : Sampler) (file : List ℕ) : Type 0 where
  pub header : HeaderRules sampler (header_of sampler file)
  pub long : length file ≡ file_size sampler (count_in sampler (header_of sampler file))

-- ---- a test that came out without a place

clean_past : (t : Bool) (place : ℕ) (rest : Lowest) → pick t (Some place) rest ≡ None → (t ≡ false) × (rest ≡ None)
clean_past true place rest e = (cc, cc)
clean_past false place rest e = (refl, e)

clean_in : (t : Bool) (place : ℕ) (rest : Lowest) → pick t rest (Some place) ≡ None → (t ≡ true) × (rest ≡ None)
clean_in true place rest e = (refl, e)
clean_in false place rest e = (cc, cc)

head_rules : (sampler : Sampler) (header : List ℕ) (t : Bool) → head_fault sampler header (both (is_whole sampler (count_in sampler header)) t) ≡ None
    → (is_whole sampler (count_in sampler header) ≡ true) × (t ≡ true) × AllKept header 0 (rows_of (table_of sampler))
unfolding head_fault
head_rules sampler header t e =
    let c = clean_in (both (is_whole sampler (count_in sampler header)) t) (count_offset sampler) _ e in
    let b = both_true (is_whole sampler (count_in sampler header)) t c.0 in
    (b.0, b.1, (faultless header 0 (rows_of (table_of sampler))).0 c.1)

rules_head : (sampler : Sampler) (header : List ℕ) (t : Bool) → HeaderRules sampler header → t ≡ true → head_fault sampler header (both (is_whole sampler (count_in sampler header)) t) ≡ None
unfolding head_fault
rules_head sampler header t r e = rw (r.whole, e, head_fault) ((faultless header 0 (rows_of (table_of sampler))).1 r.rows)

-- ---- a file, and a header for so many words

file-rules : (sampler : Sampler) (file : List ℕ) → file_fault sampler file ≡ None → SampleRules sampler file
unfolding file_fault
file-rules sampler file e =
    let c = clean_past (ltb (length file) (header_size sampler)) 0 _ e in
    let h = head_rules sampler (header_of sampler file) _ c.1 in
    record {
      header = record { size = length-take-le (header_size sampler) file (ltb-false _ _ c.0); whole = h.0; rows = h.2 };
      long = eqb-true _ _ h.1;
    }

rules-file : (sampler : Sampler) (file : List ℕ) → SampleRules sampler file → file_fault sampler file ≡ None
unfolding file_fault
rules-file sampler file r =
    let k : header_size sampler ≤ length file = omega (arith, r.long) in
    rw (le-ltb (length file) (header_size sampler) k, file_fault) (rules_head sampler (header_of sampler file) _ r.header (eq-eqb _ _ r.long))

header_rules : (sampler : Sampler) (header : List ℕ) (given : ℕ) → header_fault sampler header given ≡ None → HeaderRules sampler header × (count_in sampler header ≡ given)
unfolding header_fault
header_rules sampler header given e =
    let c = clean_in (eqb (length header) (header_size sampler)) 0 _ e in
    let h = head_rules sampler header _ c.1 in
    (record { size = eqb-true _ _ c.0; whole = h.0; rows = h.2 }, eqb-true _ _ h.1)

rules_header : (sampler : Sampler) (header : List ℕ) (given : ℕ) → HeaderRules sampler header × (count_in sampler header ≡ given) → header_fault sampler header given ≡ None
unfolding header_fault
rules_header sampler header given r = rw (eq-eqb _ _ r.0.size, header_fault) (rules_head sampler header _ r.0 (eq-eqb _ _ r.1))

-- A file has no fault exactly where it keeps the rules, and a header for so many words exactly where it keeps its own and gives that number.
pub file-accepted : (sampler : Sampler) (file : List ℕ) → (file_fault sampler file ≡ None) ↔ SampleRules sampler file
file-accepted sampler file = (file-rules sampler file, rules-file sampler file)

pub header_accepted : (sampler : Sampler) (header : List ℕ) (given : ℕ)
    → (header_fault sampler header given ≡ None) ↔ (HeaderRules sampler header × (count_in sampler header ≡ given))
header_accepted sampler header given = (header_rules sampler header given, rules_header sampler header given)

-- What the two calls promise, as a client sees it: which inputs are accepted, and that unpacking and packing undo each other.
-- An accepted call's refusals are all past; then the rules and the data's own way back. Assumes nothing.
use Rattle.std.specs.Prelude.{◌≡◌, Bool, true, false, not, ◌↔◌, ℕ, ◌≤◌, ℤ, pos, get_or, take, ltb, Ok, Some, None}
use Rattle.std.proofs.Math.Path.{refl, sym, ap}
use Rattle.std.proofs.Common.{◌∙◌, arith, length-append, take_at, drop_at, ltb-false}
use Rattle.std.proofs.Math.Bool.{not-not}
use mathlib.Core.List.{List, ◌++◌}
use Rattle.std.proofs.Math.ListN.{length}
use Rattle.std.proofs.lemmas.List.Edits.{sets}
use Rattle.laws.specs.Truth.{pick}
use Rattle.laws.specs.Lemmas.Refusals.{refused-done}
use Rattle.laws.specs.Refusals.{Counted, Filled, filled, unless}
use Rattle.laws.specs.Lemmas.Scan.{nowhere→, →nowhere}
use Rattle.laws.specs.Splice.{splice, part}
use Rattle.laws.proofs.Lemmas.Splice.{part-splice}
use Rattle.words.specs.Words.{holds}
use Rattle.samples.specs.declared.Sampler.{Sampler}
use Rattle.samples.specs.declared.Sampler.TheVariants.{S900, S1000}
use Rattle.samples.specs.Samples.{header_size, is_whole, count_in, file_size, packed, header_of, words_of, header_fault, is_outside, range_fault, room_fault, unpack_of, pack_of, Held}
use Rattle.samples.specs.Rules.{HeaderRules, SampleRules, file-accepted, header_accepted}
use Rattle.samples.specs.Lemmas.Steps.{enough_room}
use Rattle.samples.specs.Lemmas.Back.{length-packed, unpacked-packed}
use Rattle.laws.specs.Scan.{Lowest}

-- Every element is a word of 16 bits.
abbrev pub Words : List ℤ → Type 0
Words words = (i : ℕ) → holds 65536 (get_or words i (pos 0)) ≡ true

-- ---- a call that is done

-- no refusal was given
pub unless-done : {A : Type 0} (number : ℕ) (f : Lowest) (output : List A) (rest : Filled A) (count : ℕ) → (unless number f output rest).answer ≡ Ok count
    → (f ≡ None) × (unless number f output rest ≡ rest) × (rest.answer ≡ Ok count)
unless-done number (Some place) output rest count e = absurd (refused-done e)
unless-done number None output rest count e = (refl, refl, e)

pub room_enough : (room due : ℕ) → room_fault room due ≡ None → due ≤ room
room_enough room due e = ltb-false room due (by (ltb room due) e)
  where
    by : (t : Bool) → pick {A = Lowest} t (Some 0) None ≡ None → t ≡ false
    by true e = cc
    by false e = refl

pub done_is : (a b : ℕ) → ◌≡◌ {A = Counted} (Ok a) (Ok b) → a ≡ b
done_is a b e = cc

-- ---- the words' range

-- words in which no refusal is found are held
range_held : (sampler : Sampler) (words : List ℤ) → Words words → range_fault sampler words ≡ None → Held sampler words
range_held S900 words w e i h = sym (not-not (holds 4096 (get_or words i (pos 0)))) ∙ ap not (nowhere→ (is_outside words) 0 (length words) e i (omega arith) (omega arith))
range_held S1000 words w e i h = w i

pub held_range : (sampler : Sampler) (words : List ℤ) → Held sampler words → range_fault sampler words ≡ None
held_range S900 words held = →nowhere (is_outside words) 0 (length words) (λ i p q. ap not (held i (omega arith)))
held_range S1000 words held = refl

-- ---- a packed file

module _ (sampler : Sampler) (header : List ℕ) (words : List ℤ) (rules : HeaderRules sampler header) (count : count_in sampler header ≡ length words) where
  whole : is_whole sampler (length words) ≡ true
  whole = ap (is_whole sampler) (sym count) ∙ rules.whole

  pub packed_header : header_of sampler (header ++ packed sampler words) ≡ header
  packed_header = take_at header (packed sampler words) (header_size sampler) rules.size

  pub packed_long : length (header ++ packed sampler words) ≡ file_size sampler (length words)
  packed_long = length-append header (packed sampler words) ∙ omega (arith, rules.size, length-packed sampler words whole)

  pub packed-rules : SampleRules sampler (header ++ packed sampler words)
  packed-rules = record {
    header = rw packed_header rules;
    long = packed_long ∙ rw (packed_header, count) refl;
  }

  pub packed_words : Held sampler words → words_of sampler (header ++ packed sampler words) ≡ words
  packed_words held = rw (packed_header, count, drop_at header (packed sampler words) (header_size sampler) rules.size) (unpacked-packed sampler words whole held)

-- ---- a pack that is done

record Packed (sampler : Sampler) (header : List ℕ) (words : List ℤ) (out : List ℕ) (size : ℕ) : Type 0 where
  pub fault : header_fault sampler header (length words) ≡ None
  pub range : range_fault sampler words ≡ None
  pub size_is : file_size sampler (length words) ≡ size
  pub room : file_size sampler (length words) ≤ length out
  pub output : (pack_of sampler header words out).output ≡ splice out 0 (header ++ packed sampler words)

pack_done : (sampler : Sampler) (header : List ℕ) (words : List ℤ) (out : List ℕ) (size : ℕ) → (pack_of sampler header words out).answer ≡ Ok size → Packed sampler header words out size
unfolding pack_of
pack_done sampler header words out size e =
    let a = unless-done 18 (header_fault sampler header (length words)) out _ size e in
    let b = unless-done 19 (range_fault sampler words) out _ size a.2 in
    let c = unless-done 21 (room_fault (length out) (file_size sampler (length words))) out _ size b.2 in
    record {
      fault = a.0;
      range = b.0;
      size_is = done_is _ size c.2;
      room = room_enough (length out) _ c.0;
      output = ap (λ (f : Filled ℕ). f.output) (a.1 ∙ b.1 ∙ c.1);
    }

-- A header and words to pack: the header keeps its rules and gives their number, the sampler's bits hold each, and the output has room for the file.
pub record PackRules (sampler : Sampler) (header : List ℕ) (words : List ℤ) (out : List ℕ) : Type 0 where
  pub rules : HeaderRules sampler header
  pub count : count_in sampler header ≡ length words
  pub held : Held sampler words
  pub room : file_size sampler (length words) ≤ length out

pack_rules : (sampler : Sampler) (header : List ℕ) (words : List ℤ) (out : List ℕ) (size : ℕ) → Words words → (pack_of sampler header words out).answer ≡ Ok size → PackRules sampler header words out
pack_rules sampler header words out size w e =
    let p = pack_done sampler header words out size e in
    let r = (header_accepted sampler header (length words)).0 p.fault in
    record { rules = r.0; count = r.1; held = range_held sampler words w p.range; room = p.room }

rules_pack : (sampler : Sampler) (header : List ℕ) (words : List ℤ) (out : List ℕ) → PackRules sampler header words out
    → (pack_of sampler header words out).answer ≡ Ok (file_size sampler (length words))
unfolding pack_of
rules_pack sampler header words out r =
    rw ((header_accepted sampler header (length words)).1 (r.rules, r.count), held_range sampler words r.held, enough_room (length out) (file_size sampler (length words)) r.room) refl

-- Packing is accepted exactly by these rules.
pub pack_accepted : (sampler : Sampler) (header : List ℕ) (words : List ℤ) (out : List ℕ) → Words words
    → ((pack_of sampler header words out).answer ≡ Ok (file_size sampler (length words))) ↔ PackRules sampler header words out
pack_accepted sampler header words out w = (pack_rules sampler header words out (file_size sampler (length words)) w, rules_pack sampler header words out)

-- ---- unpacking what was packed

-- what was written from index 0 on
take-splice : (l v : List ℕ) (n : ℕ) → length v ≡ n → n ≤ length l → take n (splice l 0 v) ≡ v
unfolding part
take-splice l v n e h = rw (← e) (part-splice l 0 v (omega arith))

module _ (sampler : Sampler) (header : List ℕ) (words : List ℤ) (out : List ℕ) (size : ℕ) (e : (pack_of sampler header words out).answer ≡ Ok size) where
  p : Packed sampler header words out size
  p = pack_done sampler header words out size e

  rules : HeaderRules sampler header × (count_in sampler header ≡ length words)
  rules = (header_accepted sampler header (length words)).0 p.fault

  packed-file : take size (pack_of sampler header words out).output ≡ header ++ packed sampler words
  packed-file =
      ap (take size) p.output
      ∙ take-splice out (header ++ packed sampler words) size (packed_long sampler header words rules.0 rules.1 ∙ p.size_is) (omega (arith, p.room, p.size_is))

  -- The packed file's header is the header, and unpacking the file fills the words into any output that has room.
  pub header_packed : header_of sampler (take size (pack_of sampler header words out).output) ≡ header
  header_packed = ap (header_of sampler) packed-file ∙ packed_header sampler header words rules.0 rules.1

  pub unpack_packed : Words words → (into : List ℤ)
      → unpack_of sampler (take size (pack_of sampler header words out).output) into ≡ unless 21 (room_fault (length into) (length words)) into (filled (Ok (length words)) (sets into 0 words))
  unfolding unpack_of
  unpack_packed w into =
      let file = header ++ packed sampler words in
      let r = packed-rules sampler header words rules.0 rules.1 in
      let n : count_in sampler (header_of sampler file) ≡ length words = ap (count_in sampler) (packed_header sampler header words rules.0 rules.1) ∙ rules.1 in
      let held = range_held sampler words w p.range in
      ap (λ (f : List ℕ). unpack_of sampler f into) packed-file
      ∙ rw ((file-accepted sampler file).1 r, packed_words sampler header words rules.0 rules.1 held, n) refl

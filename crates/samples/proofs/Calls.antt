-- What the two calls promise, as a client sees it: which inputs are accepted, and that unpacking and packing undo each other.
-- An accepted call's refusals are all past; then the rules and the data's own way back. Assumes nothing.
use Rattle.std.specs.Prelude.{◌≡◌, ◌↔◌, ℕ, ◌+◌, ◌≤◌, ℤ, take, drop, Ok, None}
use Rattle.std.proofs.Math.Path.{refl, sym, ap}
use Rattle.std.proofs.Common.{◌∙◌, arith, take-append-drop, take_at, get_or-drop}
use mathlib.Core.List.{List, ◌++◌}
use Rattle.std.proofs.Math.ListN.{length, length-drop}
use Rattle.std.proofs.lemmas.List.Edits.{sets, sets-eq}
use Rattle.laws.specs.Refusals.{Filled, filled, unless}
use Rattle.laws.specs.Splice.{splice}
use Rattle.samples.specs.declared.Sampler.{Sampler}
use Rattle.samples.specs.Samples.{header_size, data_size, count_in, file_size, packed, header_of, words_of, file_fault, room_fault, unpack_of, pack_of, Held, Bytes}
use Rattle.samples.specs.Rules.{SampleRules, file-accepted, header_accepted}
use Rattle.samples.specs.Lemmas.Steps.{enough_room}
use Rattle.samples.specs.Lemmas.Back.{length-unpacked, held_unpacked, packed-unpacked}
use Rattle.samples.specs.Calls.{unless-done, room_enough, done_is, held_range}

-- ---- unpacking what was packed

take_sets : (l v : List ℤ) (n : ℕ) → length v ≡ n → n ≤ length l → take n (sets l 0 v) ≡ v
take_sets l v n e h = rw (sets-eq v l 0 (omega arith)) (take_at v (drop (0 + length v) l) n e)

-- ---- an unpack that is done

record Unpacked (sampler : Sampler) (file : List ℕ) (words : List ℤ) (count : ℕ) : Type 0 where
  pub fault : file_fault sampler file ≡ None
  pub count_is : count_in sampler (header_of sampler file) ≡ count
  pub room : count_in sampler (header_of sampler file) ≤ length words
  pub output : (unpack_of sampler file words).output ≡ sets words 0 (words_of sampler file)

unpack_done : (sampler : Sampler) (file : List ℕ) (words : List ℤ) (count : ℕ) → (unpack_of sampler file words).answer ≡ Ok count → Unpacked sampler file words count
unfolding unpack_of
unpack_done sampler file words count e =
    let a = unless-done 18 (file_fault sampler file) words _ count e in
    let b = unless-done 21 (room_fault (length words) (count_in sampler (header_of sampler file))) words _ count a.2 in
    record {
      fault = a.0;
      count_is = done_is _ count b.2;
      room = room_enough (length words) _ b.0;
      output = ap (λ (f : Filled ℤ). f.output) (a.1 ∙ b.1);
    }

unpack_rules : (sampler : Sampler) (file : List ℕ) (words : List ℤ) (count : ℕ) → (unpack_of sampler file words).answer ≡ Ok count
    → SampleRules sampler file × (count_in sampler (header_of sampler file) ≤ length words)
unpack_rules sampler file words count e = let u = unpack_done sampler file words count e in ((file-accepted sampler file).0 u.fault, u.room)

rules_unpack : (sampler : Sampler) (file : List ℕ) (words : List ℤ) → SampleRules sampler file × (count_in sampler (header_of sampler file) ≤ length words)
    → (unpack_of sampler file words).answer ≡ Ok (count_in sampler (header_of sampler file))
unfolding unpack_of
rules_unpack sampler file words r = rw ((file-accepted sampler file).1 r.0, enough_room (length words) (count_in sampler (header_of sampler file)) r.1) refl

-- Unpacking is accepted exactly where the file keeps its rules and the output has room for its words.
pub unpack_accepted : (sampler : Sampler) (file : List ℕ) (words : List ℤ)
    → ((unpack_of sampler file words).answer ≡ Ok (count_in sampler (header_of sampler file))) ↔ (SampleRules sampler file × (count_in sampler (header_of sampler file) ≤ length words))
unpack_accepted sampler file words = (unpack_rules sampler file words (count_in sampler (header_of sampler file)), rules_unpack sampler file words)

-- ---- packing what was unpacked

module _ (sampler : Sampler) (file : List ℕ) (words : List ℤ) (count : ℕ) (small : Bytes file) (e : (unpack_of sampler file words).answer ≡ Ok count) where
  u : Unpacked sampler file words count
  u = unpack_done sampler file words count e

  r : SampleRules sampler file
  r = (file-accepted sampler file).0 u.fault

  n : ℕ
  n = count_in sampler (header_of sampler file)

  rest : List ℕ
  rest = drop (header_size sampler) file

  rest_small : Bytes rest
  unfolding rest
  rest_small k = rw (get_or-drop (header_size sampler) file k 0) (small (header_size sampler + k))

  rest_long : length rest ≡ data_size sampler n
  unfolding rest n
  rest_long = length-drop (header_size sampler) file ∙ omega (arith, r.long)

  words_long : length (words_of sampler file) ≡ n
  unfolding rest n
  words_long = length-unpacked rest rest_small sampler n r.header.whole rest_long

  unpacked_words : take count (unpack_of sampler file words).output ≡ words_of sampler file
  unfolding n
  unpacked_words = ap (take count) u.output ∙ take_sets words (words_of sampler file) count (words_long ∙ u.count_is) (omega (arith, u.room, u.count_is))

  words_held : Held sampler (words_of sampler file)
  unfolding rest n
  words_held i h = held_unpacked rest rest_small sampler n r.header.whole rest_long i (omega (arith, words_long))

  file_again : header_of sampler file ++ packed sampler (words_of sampler file) ≡ file
  unfolding rest n
  file_again = rw (packed-unpacked rest rest_small sampler n r.header.whole rest_long) (take-append-drop (header_size sampler) file)

  -- Packing the file's header and the words that were unpacked stores the file into any output that has room.
  pub pack_unpacked : (out : List ℕ)
      → pack_of sampler (header_of sampler file) (take count (unpack_of sampler file words).output) out ≡ unless 21 (room_fault (length out) (length file)) out (filled (Ok (length file)) (splice out 0 file))
  unfolding pack_of n
  pack_unpacked out =
      let ws = words_of sampler file in
      let size : file_size sampler (length ws) ≡ length file = ap (file_size sampler) words_long ∙ sym r.long in
      ap (λ (v : List ℤ). pack_of sampler (header_of sampler file) v out) unpacked_words
      ∙ rw ((header_accepted sampler (header_of sampler file) (length ws)).1 (r.header, sym words_long), held_range sampler ws words_held, size, file_again) refl

-- What an entry comes to, by the tests that the code makes on its bytes.
-- By the tests in the definition's order. Assumes nothing.
use Rattle.std.specs.Prelude.{◌≡◌, refl, true, false, List, [], ℕ, ◌+◌, ◌-◌, ◌*◌, ◌/◌, ◌≤◌, ◌<◌, min, leb, length, get_or, replicate, set, take, drop}
use Rattle.std.proofs.Common.{sym, ap, ◌∙◌, true≢false, arith, leb-true, ne_eqb}
use Rattle.std.proofs.Math.Option.{Option, none, some}
use Rattle.laws.specs.Lemmas.Truth.{both_true}
use Rattle.laws.specs.Splice.{splice, part}
use Rattle.laws.specs.Reader.{bytes}
use Rattle.blocks.specs.Numbers.{Number, digits}
use Rattle.laws.specs.Lemmas.Padded.{padded_nil}
use Rattle.record.specs.Record.{Call, list, find, page, put, remove, Answer, Outcome}
use Rattle.rules.specs.Check.{call_of}
use Rattle.calls.specs.Answers.{listed_of, Lists, Listed, name_in}
use Rattle.session.specs.declared.Reply.{Reply}
use Rattle.session.specs.Script.{fits, put_entry, named_entry, entry_call, flag, reply_with, reply_of, reply_bytes, shown_by, after_entry, Entered, entered_by, after_run, run_from}

-- what fits ends within
pub fits_end : (size at n : ℕ) → fits size at n ≡ true → at + n ≤ size
fits_end size at n h =
    let b = both_true (leb at size) (leb n (size - at)) h in
    let p = leb-true at size b.0 in
    let q = leb-true n (size - at) b.1 in
    omega arith

-- a listing's reply, with the 12 bytes that list promises
pub list_reply : (img : List ℕ) (o : Outcome (List ℕ)) (l : Listed) → Lists img o l → reply_with (listed_of l) (name_in l) ≡ reply_of o.answer
list_reply img o l e = ap (λ (x : Outcome (List ℕ)). reply_with x.answer (name_in l)) e.answer ∙ ap (reply_with o.answer) e.name

-- a reply without a name
pub nameless : (a : Answer) → a.name ≡ [] → reply_with a (replicate 12 0) ≡ reply_of a
nameless a e = rw (e, padded_nil 12) refl

-- the writes of a reply's fields as one
pub reply_written : (s : List ℕ) (r : Reply) {one two last : List ℕ} {end : ℕ} → one ≡ splice s 0 (digits 3 r.number) → two ≡ splice one 3 (digits 3 r.value)
    → end ≡ flag r.end → last ≡ splice (set (set two 6 r.letter) 7 end) 8 r.name → last ≡ splice s 0 (reply_bytes r)
unfolding splice digits reply_bytes
reply_written s r p q e l = rw (l, e, q, p) refl

-- a reply over the part, and the page that was written before it
pub shown_as : (shown : List ℕ) (o : Outcome (List ℕ)) {reply : Reply} {paged last : List ℕ} → reply ≡ reply_of o.answer → paged ≡ splice shown 20 o.output
    → last ≡ splice paged 0 (reply_bytes reply) → last ≡ shown_by shown o
shown_as shown o p q r = rw (r, q, p) refl

-- an entry that is a call, and one that isn't
pub made_as : (img shown : List ℕ) {x : Option Call} {c : Call} {last after : List ℕ} → x ≡ some c → last ≡ shown_by shown (call_of img c) → after ≡ (call_of img c).state
    → after_entry true last after ≡ entered_by x img shown
made_as img shown e p q = rw (e, p, q) refl

pub ended_as : (img shown : List ℕ) {x : Option Call} → x ≡ none → after_entry false shown img ≡ entered_by x img shown
ended_as img shown e = rw e refl

-- ---- put

-- a part that is lent from an offset to an end
pub lent-part : (pool : List ℕ) (at n : ℕ) → take (at + n - at) (drop at pool) ≡ part pool at n
unfolding part
lent-part pool at n = let e : at + n - at ≡ n = omega arith in ap (λ k. take k (drop at pool)) e

pub put_some : (name e pool : List ℕ) (at n : ℕ) → Number 4 (bytes e) 12 at → Number 4 (bytes e) 16 n → fits (length pool) at n ≡ true
    → put_entry name e pool ≡ some (put name (get_or e 1 0) (take (at + n - at) (drop at pool)))
unfolding put_entry
put_some name e pool at n p q h = rw (lent-part pool at n, ← p.value, ← q.value, h) refl

pub put_none : (name e pool : List ℕ) {at n : ℕ} → Number 4 (bytes e) 12 at → Number 4 (bytes e) 16 n → fits (length pool) at n ≡ false → put_entry name e pool ≡ none
unfolding put_entry
put_none name e pool p q h = rw (← p.value, ← q.value, h) refl

-- ---- calls that name a file

pub named_find : (name e pool : List ℕ) → get_or e 0 0 ≡ 2 → named_entry name e pool ≡ some (find name (get_or e 1 0))
named_find name e pool h = rw h refl

pub named_remove : (name e pool : List ℕ) → get_or e 0 0 ≡ 3 → named_entry name e pool ≡ some (remove name (get_or e 1 0))
named_remove name e pool h = rw h refl

pub named_put : (name e pool : List ℕ) → get_or e 0 0 ≡ 4 → named_entry name e pool ≡ put_entry name e pool
named_put name e pool h = rw h refl

pub named_none : (name e pool : List ℕ) → (get_or e 0 0 ≡ 2 → ⊥) → (get_or e 0 0 ≡ 3 → ⊥) → (get_or e 0 0 ≡ 4 → ⊥) → named_entry name e pool ≡ none
named_none name e pool a b c = rw (ne_eqb (get_or e 0 0) 2 a, ne_eqb (get_or e 0 0) 3 b, ne_eqb (get_or e 0 0) 4 c) refl

-- ---- any entry

pub entry_list : (e pool lent : List ℕ) {a : ℕ} → Number 4 (bytes e) 4 a → get_or e 0 0 ≡ 0 → entry_call e pool lent ≡ some (list a)
unfolding entry_call
entry_list e pool lent p h = rw (h, ← p.value) refl

pub entry-page : (e pool lent : List ℕ) {a b : ℕ} → Number 4 (bytes e) 4 a → Number 4 (bytes e) 8 b → get_or e 0 0 ≡ 1 → entry_call e pool lent ≡ some (page a b lent)
unfolding entry_call
entry-page e pool lent p q h = rw (h, ← p.value, ← q.value) refl

pub entry_none : (e pool lent : List ℕ) {a b : ℕ} → Number 4 (bytes e) 4 a → Number 4 (bytes e) 8 b → (get_or e 0 0 ≡ 0 → ⊥) → (get_or e 0 0 ≡ 1 → ⊥)
    → fits (length pool) a b ≡ false → entry_call e pool lent ≡ none
unfolding entry_call
entry_none e pool lent p q x y h = rw (ne_eqb (get_or e 0 0) 0 x, ne_eqb (get_or e 0 0) 1 y, ← p.value, ← q.value, h) refl

pub entry_named : (e pool lent : List ℕ) (a b : ℕ) → Number 4 (bytes e) 4 a → Number 4 (bytes e) 8 b → (get_or e 0 0 ≡ 0 → ⊥) → (get_or e 0 0 ≡ 1 → ⊥)
    → fits (length pool) a b ≡ true → entry_call e pool lent ≡ named_entry (take (a + b - a) (drop a pool)) e pool
unfolding entry_call
entry_named e pool lent a b p q x y h = rw (lent-part pool a b, ne_eqb (get_or e 0 0) 0 x, ne_eqb (get_or e 0 0) 1 y, ← p.value, ← q.value, h) refl

-- ---- the entries in a row

-- an entry that is no call leaves its part and the image
pub stopped : (img shown : List ℕ) (x : Option Call) {last after : List ℕ} → after_entry false last after ≡ entered_by x img shown → (last ≡ shown) × (after ≡ img)
stopped img shown none e = (ap (λ (x : Entered). x.shown) e, ap (λ (x : Entered). x.state) e)
stopped img shown (some c) e = absurd (true≢false (sym (ap (λ (x : Entered). x.made) e)))

-- the k-th part lies in the output
pub part-fits : (a m k : ℕ) {n : ℕ} → n ≡ min a (m / 1044) → k < n → 1044 * k + 1044 ≤ m
part-fits a m k e h = omega arith

pub run_end : (script pool : List ℕ) (n k : ℕ) (img out : List ℕ) → n ≤ k → run_from script pool (n - k) k img out ≡ after_run k out img
unfolding run_from
run_end script pool n k img out h = let s : n - k ≡ 0 = omega arith in rw s refl

pub run-start : (script pool : List ℕ) (n : ℕ) (img out : List ℕ) → run_from script pool (n - 0) 0 img out ≡ run_from script pool n 0 img out
run-start script pool n img out = let s : n - 0 ≡ n = omega arith in rw s refl

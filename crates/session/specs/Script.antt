-- A script of calls in bytes, and what running it comes to: how many calls were made, the output and the image afterwards.
-- The form is ours, no paper's; what each call comes to is `call_of`. Assumes nothing.
use Rattle.std.specs.Prelude.{Bool, true, false, List, ◌∷◌, ◌++◌, ℕ, zero, suc, ◌-◌, ◌*◌, ◌/◌, min, leb, eqb, length, get_or}
use Rattle.std.proofs.Math.Option.{Option, none, some}
use Rattle.laws.specs.Truth.{pick, both}
use Rattle.laws.specs.Splice.{splice, part}
use Rattle.laws.specs.Padded.{padded}
use Rattle.laws.specs.Reader.{bytes}
use Rattle.blocks.specs.Numbers.{number, digits}
use Rattle.record.specs.Record.{Call, list, find, page, put, remove, Answer, number_in, place_or, Outcome}
use Rattle.rules.specs.Check.{call_of}
use Rattle.session.specs.declared.Reply.{Reply}

-- ---- the calls of a script

-- Whether n bytes from an offset on lie in as many as there are.
abbrev pub fits : ℕ → ℕ → ℕ → Bool
fits size at n = both (leb at size) (leb n (size - at))

-- An entry has 20 bytes: the call's number, the type of a call that names a file, two that aren't read, and four numbers of four bytes.
-- 4 is put: the last two numbers are the content's offset and length in the pool.
unfoldable pub put_entry : List ℕ → List ℕ → List ℕ → Option Call
unfolding number part
put_entry name e pool =
    let at = number 4 (bytes e) 12 in
    let n = number 4 (bytes e) 16 in
    pick (fits (length pool) at n) (some (put name (get_or e 1 0) (part pool at n))) none

-- 2 is find, 3 remove.
abbrev pub named_entry : List ℕ → List ℕ → List ℕ → Option Call
named_entry name e pool =
    let op = get_or e 0 0 in
    let type = get_or e 1 0 in
    pick (eqb op 2) (some (find name type)) (pick (eqb op 3) (some (remove name type)) (pick (eqb op 4) (put_entry name e pool) none))

-- 0 is list: the first number is the slot. 1 is page: slot and offset; it is lent the bytes after the reply. The others: the name's
-- offset and length in the pool. Any other entry is no call.
unfoldable pub entry_call : List ℕ → List ℕ → List ℕ → Option Call
unfolding number part put_entry
entry_call e pool lent =
    let op = get_or e 0 0 in
    let a = number 4 (bytes e) 4 in
    let b = number 4 (bytes e) 8 in
    pick (eqb op 0) (some (list a)) (pick (eqb op 1) (some (page a b lent)) (pick (fits (length pool) a b) (named_entry (part pool a b) e pool) none))

-- ---- what is written for a call

-- An answer's number, its place or its value, type and end; list's with the name's 12 bytes given beside it.
abbrev pub reply_with : Answer → List ℕ → Reply
reply_with a bytes = record { number = number_in a.refusal; value = place_or a.refusal a.value; letter = a.type; end = a.end; name = bytes }

abbrev pub reply_of : Answer → Reply
reply_of a = reply_with a (padded a.name 12)

abbrev pub flag : Bool → ℕ
flag true = 1
flag false = 0

-- The reply's 20 bytes: number, value, type, whether the end is reached, name.
unfoldable pub reply_bytes : Reply → List ℕ
unfolding digits
reply_bytes r = digits 3 r.number ++ (digits 3 r.value ++ (r.letter ∷ flag r.end ∷ r.name))

-- ---- running a script

-- After one entry: whether it was a call, its part of the output, the image.
pub record Entered : Type 0 where
  pub made : Bool
  pub shown : List ℕ
  pub state : List ℕ

abbrev pub after_entry : Bool → List ℕ → List ℕ → Entered
after_entry made shown img = record { made = made; shown = shown; state = img }

-- A call's part of the output has 1,044 bytes: the reply, and 1,024 that a page may fill.
abbrev pub shown_by : List ℕ → Outcome (List ℕ) → List ℕ
shown_by shown o = splice (splice shown 20 o.output) 0 (reply_bytes (reply_of o.answer))

abbrev pub entered_by : Option Call → List ℕ → List ℕ → Entered
entered_by none img shown = after_entry false shown img
entered_by (some c) img shown = after_entry true (shown_by shown (call_of img c)) (call_of img c).state

abbrev pub entered : List ℕ → List ℕ → List ℕ → List ℕ → Entered
entered img e pool shown = entered_by (entry_call e pool (part shown 20 1024)) img shown

-- After a script: how many calls were made, the output, the image.
pub record Ended : Type 0 where
  pub made : ℕ
  pub output : List ℕ
  pub state : List ℕ

abbrev pub after_run : ℕ → List ℕ → List ℕ → Ended
after_run made out img = record { made = made; output = out; state = img }

-- The entries from the k-th on, at most n: it ends before the first that is no call. Each call gets the image that the one before left.
unfoldable pub run_from : List ℕ → List ℕ → ℕ → ℕ → List ℕ → List ℕ → Ended
unfolding part splice entry_call call_of reply_bytes
run_from script pool zero k img out = after_run k out img
run_from script pool (suc n) k img out =
    let e = entered img (part script (20 * k) 20) pool (part out (1044 * k) 1044) in
    pick e.made (run_from script pool n (suc k) e.state (splice out (1044 * k) e.shown)) (after_run k out img)

-- As many entries as the script has and the output has parts for.
abbrev pub entries : List ℕ → List ℕ → ℕ
entries script out = min (length script / 20) (length out / 1044)

abbrev pub run_of : List ℕ → List ℕ → List ℕ → List ℕ → Ended
run_of img script pool out = run_from script pool (entries script out) 0 img out

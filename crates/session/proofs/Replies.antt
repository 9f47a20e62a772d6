-- A reply's bytes hold the answer whole: read back, they are the reply that was written, so cutting its numbers to three bytes loses nothing.
-- No call answers a number that takes more (`call_small`, rules/proofs/Small.antt). Assumes nothing.
use Rattle.std.specs.Prelude.{◌≡◌, refl, Bool, true, false, List, ℕ, eqb}
use Rattle.std.proofs.Math.Option.{Option, none, some}
use Rattle.std.proofs.Common.{arith}
use Rattle.laws.specs.declared.Refusal.{Refusal}
use Rattle.laws.specs.Reader.{bytes}
use Rattle.blocks.specs.Numbers.{number, digits}
use Rattle.record.specs.Record.{Call, number_in, place_or}
use Rattle.rules.specs.Check.{call_of}
use Rattle.rules.specs.Small.{Small, NumberedIn}
use Rattle.rules.proofs.Small.{call_small}
use Rattle.session.specs.Script.{reply_of, flag, reply_bytes}
use Rattle.session.specs.declared.Reply.{Reply}
use Rattle.session.specs.Replies.{read_reply}

flag_back : (end : Bool) → eqb (flag end) 1 ≡ end
flag_back true = refl
flag_back false = refl

read_back : (r : Reply) → Small r.number → Small r.value → read_reply (reply_bytes r) ≡ r
unfolding read_reply reply_bytes digits number
read_back r h k =
    let n : number 3 (bytes (reply_bytes r)) 0 ≡ r.number = omega arith in
    let v : number 3 (bytes (reply_bytes r)) 3 ≡ r.value = omega arith in
    rw (n, v, flag_back r.end) refl

told_small : (w : Option Refusal) (value : ℕ) → NumberedIn w → Small value → Small (number_in w) × Small (place_or w value)
told_small none value n h = (omega arith, h)
told_small (some r) value n h = (omega (arith, n.most), n.place)

-- What is written of any call on any image reads back.
pub reply_back : (img : List ℕ) (c : Call) → read_reply (reply_bytes (reply_of (call_of img c).answer)) ≡ reply_of (call_of img c).answer
reply_back img c =
    let a = (call_of img c).answer in
    let h = call_small img c in
    let w = told_small a.refusal a.value h.refusal h.value in
    read_back (reply_of a) w.0 w.1

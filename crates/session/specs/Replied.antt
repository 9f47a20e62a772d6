-- What an entry comes to before its reply is written: the reply, if it is a call, its part of the output with the page of a call that has one, the image.
-- With the reply over it, that is what the entry comes to (`shown_replied`). Assumes nothing.
use Rattle.std.specs.Prelude.{◌≡◌, refl, Bool, true, false, List, [], ℕ, Some, None}
use Rattle.std.proofs.Common.{sym, ap, true≢false}
use Rattle.std.proofs.Math.Option.{Option, none, some}
use Rattle.laws.specs.Splice.{splice}
use Rattle.laws.specs.Lemmas.Splice.{splice_none}
use Rattle.record.specs.Record.{Call, Answer}
use Rattle.rules.specs.Check.{call_of, Made}
use Rattle.session.specs.declared.Reply.{Reply}
use Rattle.session.specs.Script.{reply_of, reply_bytes, after_entry, entered_by}

pub record Replied : Type 0 where
  pub reply : Rattle.std.specs.Prelude.Option Reply
  pub shown : List ℕ
  pub state : List ℕ

abbrev pub replied : Rattle.std.specs.Prelude.Option Reply → List ℕ → List ℕ → Replied
replied r shown img = record { reply = r; shown = shown; state = img }

abbrev pub replied_by : Option Call → List ℕ → List ℕ → Replied
replied_by none img shown = replied None shown img
replied_by (some c) img shown = let o = call_of img c in replied (Some (reply_of o.answer)) (splice shown 20 o.output) o.state

-- no call
pub unreplied : (img shown : List ℕ) {x : Option Call} → x ≡ none → replied None shown img ≡ replied_by x img shown
unreplied img shown e = rw e refl

-- a call that is made, with what it writes behind its reply
pub replied-made : (img shown : List ℕ) {x : Option Call} {c : Call} {a : Answer} {reply : Reply} {output after last : List ℕ} → x ≡ some c → reply ≡ reply_of a
    → Made img c a output after → last ≡ splice shown 20 output → replied (Some reply) last after ≡ replied_by x img shown
replied-made img shown e p m q = rw (e, ← m, p, q) refl

-- one that writes nothing there
pub replied_alone : (img : List ℕ) {x : Option Call} {c : Call} {a : Answer} {reply : Reply} {after : List ℕ} → x ≡ some c → reply ≡ reply_of a
    → Made img c a [] after → (shown : List ℕ) → replied (Some reply) shown after ≡ replied_by x img shown
replied_alone img e p m shown = replied-made img shown e p m (splice_none shown 20)

-- ---- the entry, from its reply

is_reply : Rattle.std.specs.Prelude.Option Reply → Bool
is_reply (Some r) = true
is_reply None = false

reply_in : Reply → Rattle.std.specs.Prelude.Option Reply → Reply
reply_in d (Some r) = r
reply_in d None = d

-- no call leaves its part and the image
pub shown_none : (img shown : List ℕ) (x : Option Call) {last after : List ℕ} → replied None last after ≡ replied_by x img shown → after_entry false last after ≡ entered_by x img shown
unfolding is_reply
shown_none img shown none e = ap (λ (r : Replied). after_entry false r.shown r.state) e
shown_none img shown (some c) e = absurd (true≢false (sym (ap (λ (r : Replied). is_reply r.reply) e)))

-- a call's reply is written over its part
pub shown_replied : (img shown : List ℕ) (x : Option Call) {reply : Reply} {paged last after : List ℕ} → replied (Some reply) paged after ≡ replied_by x img shown
    → last ≡ splice paged 0 (reply_bytes reply) → after_entry true last after ≡ entered_by x img shown
unfolding is_reply reply_in
shown_replied img shown none e w = absurd (true≢false (ap (λ (r : Replied). is_reply r.reply) e))
shown_replied img shown (some c) {reply} {paged} {last} {after} e w =
    let told : reply ≡ reply_of (call_of img c).answer = ap (λ (r : Replied). reply_in reply r.reply) e in
    let page : paged ≡ splice shown 20 (call_of img c).output = ap (λ (r : Replied). r.shown) e in
    let state : after ≡ (call_of img c).state = ap (λ (r : Replied). r.state) e in
    rw (w, page, told, state) refl

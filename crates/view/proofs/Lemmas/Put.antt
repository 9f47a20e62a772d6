-- An entry written to an empty slot, with its content in free blocks: the disk stays valid, that slot's file is new, and every other stays.
-- Chains of files have no free block, so none has a block that is written; the new blocks read back as the new chain. Assumes nothing.
use Rattle.std.specs.Prelude.{◌≡◌, true, List, [], ◌∷◌, ℕ, suc, ◌<◌, length}
use Rattle.std.proofs.Common.{sym, ap, ◌∙◌, arith}
use Rattle.std.proofs.Math.Decide.{ℕ_discrete}
use Rattle.laws.specs.Lemmas.Truth.{clash}
use Rattle.laws.specs.Member.{In}
use Rattle.laws.specs.Lemmas.Member.{dec_in}
use Rattle.layout.specs.declared.Layout.{Layout}
use Rattle.layout.specs.Right.{LayoutRight}
use Rattle.blocks.specs.Blocks.{links_for}
use Rattle.map.specs.Map.{Data, Chained, first_or}
use Rattle.map.specs.Lemmas.Chains.{Linked, linked_chained}
use Rattle.view.specs.Disk.{Entry, View, formed, Namesakes, Used, Owns, Valid}
use Rattle.view.specs.Lemmas.Formed.{formed-used}
use Rattle.view.specs.Lemmas.Namesakes.{namesakes_back, namesakes_kept}
use Rattle.view.specs.Lemmas.Kept.{kept_chained, used_back, owns_back, owns_on}
use Rattle.view.specs.Lemmas.Put.{Fresh, Stored, apart_free, keep, mine}

new_chained : (l : Layout) (m : ℕ → ℕ) (e : Entry) (bs : List ℕ) → length bs ≡ suc (links_for e.size) → e.start ≡ first_or bs 0 → Linked m bs l.mark → ((b : ℕ) → In b bs → Data l b)
    → Chained l m (links_for e.size) e.start
unfolding first_or
new_chained l m e [] n f h d = absurd (omega arith)
new_chained l m e (b ∷ bs) n f h d =
    let k : links_for e.size ≡ length bs = omega arith in
    rw (k, f) (linked_chained l m b bs h d)

module _ (l : Layout) (right : LayoutRight l) (v w : View) (s : ℕ) (e : Entry) (bs content : List ℕ) (valid : Valid l v) (fresh : Fresh l v s e bs content)
    (stored : Stored l v s e bs content w) where
  was : (t : ℕ) → (t ≡ s → ⊥) → Used l w t → Used l v t
  was t n u = used_back l v w t (stored.kept t u.0 n) u

  was_owned : (t b : ℕ) → (t ≡ s → ⊥) → Owns l w t b → Owns l v t b
  was_owned t b n o = owns_back l v w t b (keep l right v w s e bs content valid fresh stored t (was t n o.0) n) o

  at_s : (t : ℕ) → t ≡ s → w.entry t ≡ e
  at_s t p = ap w.entry p ∙ stored.made

  mine_of : (t b : ℕ) → t ≡ s → Owns l w t b → In b bs
  mine_of t b p o = rw (mine l right v w s e bs content valid fresh stored) at (rw (at_s t p) at o.1)

  legal_by : (t : ℕ) → Dec (t ≡ s) → Used l w t → formed l (w.entry t) ≡ true
  legal_by t (yes p) u = rw (at_s t p) fresh.form
  legal_by t (no n) u = rw (stored.kept t u.0 n) (valid.legal t (was t n u))

  single_by : (t q : ℕ) → Dec (t ≡ s) → Dec (q ≡ s) → Used l w t → Used l w q → Namesakes (w.entry t) (w.entry q) → t ≡ q
  single_by t q (yes a) (yes b) u x h = a ∙ sym b
  single_by t q (yes a) (no b) u x h = absurd (fresh.new q (was q b x) (namesakes_kept (stored.kept q x.0 b) (at_s t a) (namesakes_back (w.entry t) (w.entry q) h)))
  single_by t q (no a) (yes b) u x h = absurd (fresh.new t (was t a u) (namesakes_kept (stored.kept t u.0 a) (at_s q b) h))
  single_by t q (no a) (no b) u x h = valid.single t q (was t a u) (was q b x) (namesakes_kept (stored.kept t u.0 a) (stored.kept q x.0 b) h)

  linked_by : (t : ℕ) → Dec (t ≡ s) → Used l w t → Chained l w.map (links_for (w.entry t).size) (w.entry t).start
  linked_by t (yes p) u = rw (at_s t p) (new_chained l w.map e bs fresh.enough fresh.start stored.linked fresh.inside)
  linked_by t (no n) u = kept_chained l v w t (keep l right v w s e bs content valid fresh stored t (was t n u) n) (valid.linked t (was t n u))

  apart_by : (t q b : ℕ) → Dec (t ≡ s) → Dec (q ≡ s) → Owns l w t b → Owns l w q b → t ≡ q
  apart_by t q b (yes x) (yes y) o p = x ∙ sym y
  apart_by t q b (yes x) (no y) o p = absurd (apart_free l right v w s e bs content valid fresh stored q b (was_owned q b y p) (mine_of t b x o))
  apart_by t q b (no x) (yes y) o p = absurd (apart_free l right v w s e bs content valid fresh stored t b (was_owned t b x o) (mine_of q b y p))
  apart_by t q b (no x) (no y) o p = valid.apart t q b (was_owned t b x o) (was_owned q b y p)

  -- slot s was empty
  not_s : (t : ℕ) → Used l v t → t ≡ s → ⊥
  not_s t u p = clash (rw p at u.1) fresh.empty

  used_s : Used l w s
  used_s = (fresh.slot, rw stored.made (formed-used l e right fresh.form))

  owner_by : (b : ℕ) → Data l b → (w.map b ≡ 0 → ⊥) → Dec (In b bs) → (t : ℕ) × Owns l w t b
  owner_by b d n (yes i) = (s, (used_s, rw (stored.made, mine l right v w s e bs content valid fresh stored) i))
  owner_by b d n (no i) =
      let o = valid.owner b d (λ z. n (stored.other b d.1 i ∙ z)) in
      (o.0, owns_on l v w o.0 b (keep l right v w s e bs content valid fresh stored o.0 o.1.0 (not_s o.0 o.1.0)) o.1)

  system : (k : ℕ) → k < l.system → w.map k ≡ l.reserved
  system k h =
      let low : k < l.first = omega (arith, right.system_low) in
      stored.other k (omega (arith, right.data_some)) (λ i. let d = fresh.inside k i in omega (arith, d.0)) ∙ valid.system k h

  pub put_valid : Valid l w
  put_valid = record {
    system = system;
    legal = λ t u. legal_by t (ℕ_discrete t s) u;
    single = λ t q. single_by t q (ℕ_discrete t s) (ℕ_discrete q s);
    linked = λ t. linked_by t (ℕ_discrete t s);
    apart = λ t q b. apart_by t q b (ℕ_discrete t s) (ℕ_discrete q s);
    owner = λ b d n. owner_by b d n (dec_in b bs);
  }

-- Nothing else in the image changes (document 01, "Calls on an accepted disk"): which bytes a call touches, that it keeps every other, and where they lie.
-- By cases on the call and on the record's judgement; blocks that are taken or freed are data blocks. Assumes nothing.
use Rattle.std.specs.Prelude.{◌≡◌, List, ◌⊎◌, false, ℕ, ◌+◌, ◌-◌, ◌<◌, Ok, Err}
use Rattle.std.proofs.Math.Path.{refl}
use Rattle.std.proofs.Common.{inl, inr, arith}
use Rattle.std.proofs.Math.Decide.{dec_lt, ℕ_discrete}
use Rattle.laws.specs.Reader.{bytes}
use Rattle.layout.specs.declared.Layout.{Layout}
use Rattle.layout.specs.Layouts.{slot_offset}
use Rattle.layout.specs.Right.{LayoutRight}
use Rattle.map.specs.Map.{Data}
use Rattle.image.specs.Image.{files_in, DiskRules, remove_image, put_image}
use Rattle.image.specs.Outside.{Within, InEntry, InSlot, InMap, InBlock, RemoveTouches, PutTouches, remove_outside, put_outside}
use Rattle.record.specs.Record.{Call, check, list, find, page, put, remove, salvage, judge_name, judge_put, Judged}
use Rattle.record.proofs.Lemmas.Granted.{granted_put}
use Rattle.record.specs.Lemmas.Update.{chosen-inside}
use Rattle.record.proofs.Lemmas.Update.{remove_slot, remove_inside, put_slot, put_identity}
use Rattle.record.specs.Step.{image_after}
use Rattle.record.specs.Outside.{Touches, Changeable, slot_apart}

module _ (l : Layout) (right : LayoutRight l) where
  module _ (img : List ℕ) (i : ℕ) where
    -- all else stays
    pub step_outside : (c : Call) → (Touches l img c i → ⊥) → bytes (image_after l img c) i ≡ bytes img i
    unfolding image_after
    step_outside check out = refl
    step_outside (list s) out = refl
    step_outside (find name type) out = refl
    step_outside (page s offset o) out = refl
    step_outside (put name type content) out = go (judge_put l (files_in l img) name type content) refl
      where
        go : (j : Judged) → judge_put l (files_in l img) name type content ≡ j → bytes (image_after l img (put name type content)) i ≡ bytes img i
        go (Err r) e = rw e refl
        go (Ok s) e = rw e (put_outside l img s right name (granted_put l (files_in l img) name type content s e).name-legal type content i (λ p. out (s, e, p)))
    step_outside (remove name type) out = go (judge_name l (files_in l img) name type) refl
      where
        go : (j : Judged) → judge_name l (files_in l img) name type ≡ j → bytes (image_after l img (remove name type)) i ≡ bytes img i
        go (Err r) e = rw e refl
        go (Ok s) e = rw e (remove_outside l img s i (λ p. out (s, e, p)))
    step_outside (salvage report) out = refl

    module _ (rules : DiskRules l img) where
      put_where : (name : List ℕ) (type : ℕ) (content : List ℕ) (s : ℕ) → judge_put l (files_in l img) name type content ≡ Ok s → PutTouches l img s content i → Changeable l i
      put_where name type content s e (inl p) = inl (s, (put_slot l right img rules name type content s e).0, p)
      put_where name type content s e (inr (inl p)) = inr (inl (p.0, chosen-inside l right img rules name type content s e p.0 p.1, p.2))
      put_where name type content s e (inr (inr p)) = inr (inr (p.0, chosen-inside l right img rules name type content s e p.0 p.1, p.2))

      remove_where : (name : List ℕ) (type s : ℕ) → judge_name l (files_in l img) name type ≡ Ok s → RemoveTouches l img s i → Changeable l i
      remove_where name type s e (inl p) = inl (s, (remove_slot l right img rules name type s e).0, (p.0, omega (arith, p.1)))
      remove_where name type s e (inr p) = inr (inl (p.0, remove_inside l right img rules name type s e p.0 p.1, p.2))

      pub touches_where : (c : Call) → Touches l img c i → Changeable l i
      touches_where check t = absurd t
      touches_where (list s) t = absurd t
      touches_where (find name type) t = absurd t
      touches_where (page s offset o) t = absurd t
      touches_where (put name type content) t = put_where name type content t.0 t.1 t.2
      touches_where (remove name type) t = remove_where name type t.0 t.1 t.2
      touches_where (salvage report) t = absurd t

  -- ---- a slot's identity in the first directory

  -- another slot's bytes aren't it
  identity_apart : (s t i : ℕ) → s < l.slots → (t ≡ s → ⊥) → Within (slot_offset l s + 22) 2 i → InSlot l t i → ⊥
  identity_apart s t i h n p q = go (dec_lt t s)
    where
      go : Dec (t < s) → ⊥
      go (yes z) = omega (arith, p.0, q.1)
      go (no z) = omega (arith, p.1, q.0)

  module _ (img : List ℕ) (rules : DiskRules l img) (own : l.second ≡ false) (small : (i : ℕ) → bytes img i < 256) (s i : ℕ) (slot : s < l.slots) (inside : Within (slot_offset l s + 22) 2 i) where
    -- it lies in no map value and in no data block
    elsewhere : ((b : ℕ) × Data l b × InMap b i) ⊎ ((b : ℕ) × Data l b × InBlock b i) → ⊥
    elsewhere (inl e) = slot_apart l right s e.0 i right.directory_apart slot (omega (arith, inside.0), omega (arith, inside.1)) e.1.1 e.2
    elsewhere (inr e) = omega (arith, right.directory_low, inside.1, e.1.0, e.2.0)

    put_keeps : (name : List ℕ) (type : ℕ) (content : List ℕ) (t : ℕ) → judge_put l (files_in l img) name type content ≡ Ok t → Dec (t ≡ s)
        → bytes (put_image l img t name type content) i ≡ bytes img i
    put_keeps name type content t e (yes z) =
        let j = i - (slot_offset l t + 22) in
        let w : slot_offset l t + 22 + j ≡ i = omega (arith, inside.0) in
        rw w at (put_identity l right img rules name type content t e own small j (omega (arith, inside.1)))
    put_keeps name type content t e (no n) = put_outside l img t right name (granted_put l (files_in l img) name type content t e).name-legal type content i out
      where
        out : PutTouches l img t content i → ⊥
        out (inl q) = identity_apart s t i slot n inside q
        out (inr (inl q)) = elsewhere (inl (q.0, chosen-inside l right img rules name type content t e q.0 q.1, q.2))
        out (inr (inr q)) = elsewhere (inr (q.0, chosen-inside l right img rules name type content t e q.0 q.1, q.2))

    remove_keeps : (name : List ℕ) (type t : ℕ) → judge_name l (files_in l img) name type ≡ Ok t → bytes (remove_image l img t) i ≡ bytes img i
    remove_keeps name type t e = remove_outside l img t i out
      where
        -- what remove clears ends before the identity
        cleared : Dec (t ≡ s) → InEntry l t i → ⊥
        cleared (yes z) q = omega (arith, inside.0, q.1)
        cleared (no n) q = identity_apart s t i slot n inside (q.0, omega (arith, q.1))

        out : RemoveTouches l img t i → ⊥
        out (inl q) = cleared (ℕ_discrete t s) q
        out (inr q) = elsewhere (inl (q.0, remove_inside l right img rules name type t e q.0 q.1, q.2))

    pub identity_fixed : (c : Call) → bytes (image_after l img c) i ≡ bytes img i
    unfolding image_after
    identity_fixed check = refl
    identity_fixed (list t) = refl
    identity_fixed (find name type) = refl
    identity_fixed (page t offset o) = refl
    identity_fixed (put name type content) = go (judge_put l (files_in l img) name type content) refl
      where
        go : (j : Judged) → judge_put l (files_in l img) name type content ≡ j → bytes (image_after l img (put name type content)) i ≡ bytes img i
        go (Err r) e = rw e refl
        go (Ok t) e = rw e (put_keeps name type content t e (ℕ_discrete t s))
    identity_fixed (remove name type) = go (judge_name l (files_in l img) name type) refl
      where
        go : (j : Judged) → judge_name l (files_in l img) name type ≡ j → bytes (image_after l img (remove name type)) i ≡ bytes img i
        go (Err r) e = rw e refl
        go (Ok t) e = rw e (remove_keeps name type t e)
    identity_fixed (salvage report) = refl

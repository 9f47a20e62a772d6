-- Put's judgement step by step, as the code takes it.
-- On a valid disk the record's empty slot and free blocks are those of the entries and the map. Assumes nothing.
use Rattle.std.specs.Prelude.{◌≡◌, refl, true, false, List, ℕ, ◌≤◌, ◌<◌, length, Ok, Some, None, ok_or, Err}
use Rattle.std.proofs.Math.Path.{sym}
use Rattle.std.proofs.Common.{ap₂, ◌∙◌, arith, lt-ltb, le-ltb, ap}
use Rattle.std.proofs.Math.Bool.{not}
use Rattle.laws.specs.Scan.{lowest, Lowest}
use Rattle.laws.specs.Lemmas.Scan.{lowest_cong}
use Rattle.laws.specs.Reader.{bytes}
use Rattle.layout.specs.declared.Layout.{Layout}
use Rattle.layout.specs.Right.{LayoutRight}
use Rattle.blocks.specs.Blocks.{blocks_for}
use Rattle.map.specs.Map.{map_at, free_count}
use Rattle.view.specs.Disk.{used}
use Rattle.image.specs.Image.{view_of, files_in, DiskRules}
use Rattle.record.specs.Record.{refuse, is_legal, is_empty, slot_of, empty_slot, judge_put, Judged}
use Rattle.record.specs.Order.{room_for, order_unfit, order_empty, order_taken, order_full, order_room}
use Rattle.record.specs.Lemmas.Update.{empty_used, free_is}
use Rattle.laws.specs.Refusals.{refusal_at}
use Rattle.laws.specs.declared.Refusal.{Refusal}

-- wanted is how many blocks a content of this size needs
module _ (free size slot wanted : ℕ) (needs : wanted ≡ blocks_for size) where
  pub room_none : free < wanted → refuse 15 0 ≡ room_for free size slot
  room_none h = rw (lt-ltb free (blocks_for size) (omega arith)) refl

  pub room_long : wanted ≤ free → 16777215 < size → refuse 16 0 ≡ room_for free size slot
  room_long h k = rw (le-ltb free (blocks_for size) (omega arith), lt-ltb 16777215 size k) refl

  pub room_some : wanted ≤ free → size ≤ 16777215 → Ok slot ≡ room_for free size slot
  room_some h k = rw (le-ltb free (blocks_for size) (omega arith), le-ltb 16777215 size k) refl

module _ (l : Layout) (right : LayoutRight l) (img : List ℕ) (rules : DiskRules l img) (name : List ℕ) (type : ℕ) (content : List ℕ) {size : ℕ} (long : length content ≡ size) where
  pub put_illegal : is_legal l name type ≡ false → refuse 11 0 ≡ judge_put l (files_in l img) name type content
  put_illegal e = sym (order_unfit l (files_in l img) name type content e)

  module _ (legal : is_legal l name type ≡ true) where
    pub put_empty : size ≡ 0 → refuse 13 0 ≡ judge_put l (files_in l img) name type content
    put_empty e = sym (order_empty l (files_in l img) name type content legal (long ∙ e))

    module _ (some : size ≡ 0 → ⊥) {taken : Lowest} (slot : taken ≡ slot_of l (files_in l img) name type) where
      nonzero : length content ≡ 0 → ⊥
      nonzero e = some (sym long ∙ e)

      pub put_taken : {s : ℕ} → taken ≡ Some s → refuse 12 s ≡ judge_put l (files_in l img) name type content
      put_taken e = sym (order_taken l (files_in l img) name type content legal nonzero (sym slot ∙ e))

      module _ (new : taken ≡ None) {empty : Lowest} (found : empty ≡ lowest (λ s. not (used ((view_of l (bytes img)).entry s))) 0 l.slots) where
        empty_slot_is : empty_slot l (files_in l img) ≡ empty
        unfolding empty_slot
        empty_slot_is =
            lowest_cong (λ s. is_empty (files_in l img s)) (λ s. not (used ((view_of l (bytes img)).entry s))) 0 l.slots
            (λ s p q. empty_used l (view_of l (bytes img)) s (omega arith)) ∙ sym found

        pub put_full : empty ≡ None → refuse 14 0 ≡ judge_put l (files_in l img) name type content
        put_full e = sym (order_full l (files_in l img) name type content legal nonzero (sym slot ∙ new) (empty_slot_is ∙ e))

        -- the slot asked for, or its refusal
        pub put_none : {q : Judged} {w : Refusal} → q ≡ ok_or empty (refusal_at 14 0) → q ≡ Err w → Err w ≡ judge_put l (files_in l img) name type content
        put_none {q} {w} asked e = go empty refl
          where
            go : (x : Lowest) → empty ≡ x → Err w ≡ judge_put l (files_in l img) name type content
            go (Some s) z = absurd (let y : ◌≡◌ {A = Judged} (Err w) (Ok s) = sym e ∙ asked ∙ rw z refl in let o : ◌≡◌ {A = ℕ} 0 1 = cc in omega arith)
            go None z = sym e ∙ asked ∙ rw z (put_full z)

        pub put_some : {q : Judged} {s : ℕ} → q ≡ ok_or empty (refusal_at 14 0) → q ≡ Ok s → empty ≡ Some s
        put_some {q} {s} asked e = go empty refl
          where
            go : (x : Lowest) → empty ≡ x → empty ≡ Some s
            go (Some t) z = let y : ◌≡◌ {A = Judged} (Ok t) (Ok s) = sym (asked ∙ rw z refl) ∙ e in let t : t ≡ s = cc in z ∙ ap Some t
            go None z = absurd (let y : ◌≡◌ {A = Judged} (Err (refusal_at 14 0)) (Ok s) = sym (asked ∙ rw z refl) ∙ e in let o : ◌≡◌ {A = ℕ} 0 1 = cc in omega arith)

        pub put_room : {s : ℕ} {r : Judged} {blocks : ℕ} → empty ≡ Some s → blocks ≡ free_count l (map_at (bytes img)) → r ≡ room_for blocks size s
            → r ≡ judge_put l (files_in l img) name type content
        put_room {s} e n t =
            t ∙ ap₂ (λ (b c : ℕ). room_for b c s) (n ∙ sym (free_is l right img rules)) (sym long)
            ∙ sym (order_room l (files_in l img) name type content legal nonzero (sym slot ∙ new) (empty_slot_is ∙ e))

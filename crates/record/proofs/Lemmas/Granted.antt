-- What a call that was granted a slot has passed.
-- Were one of its tests to fail, the order of the refusals would refuse it. Assumes nothing.
use Rattle.std.specs.Prelude.{◌≡◌, refl, true, List, ℕ, length, ltb, Ok, None, Some, Err}
use Rattle.std.proofs.Common.{sym, ◌∙◌, arith, ne_eqb}
use Rattle.laws.specs.Lemmas.Truth.{both_true, true_if}
use Rattle.layout.specs.declared.Layout.{Layout}
use Rattle.blocks.specs.Blocks.{blocks_for}
use Rattle.names.specs.Names.{legal_name, legal_type}
use Rattle.record.specs.Record.{Files, is_legal, slot_of, empty_slot, free, judge_put}
use Rattle.record.specs.Order.{order_unfit, order_empty, order_taken, order_full, order_room}
use Rattle.laws.specs.declared.Refusal.{Refusal}
use Rattle.record.specs.Lemmas.Granted.{pass_if, Puts}
use Rattle.laws.specs.Scan.{Lowest}

module _ (l : Layout) (files : Files) (name : List ℕ) (type : ℕ) (content : List ℕ) (s : ℕ) (granted : judge_put l files name type content ≡ Ok s) where
  not-refused : {w : Refusal} → judge_put l files name type content ≡ Err w → ⊥
  not-refused {w} r = let q : Err w ≡ Ok s = sym r ∙ granted in let z : ◌≡◌ {A = ℕ} 0 1 = cc in absurd (omega arith)

  fit : is_legal l name type ≡ true
  fit = true_if (is_legal l name type) (λ e. not-refused (order_unfit l files name type content e))

  some : length content ≡ 0 → ⊥
  some e = not-refused (order_empty l files name type content fit e)

  new : slot_of l files name type ≡ None
  new = go (slot_of l files name type) refl
    where
      go : (w : Lowest) → slot_of l files name type ≡ w → slot_of l files name type ≡ None
      go (Some t) e = absurd (not-refused (order_taken l files name type content fit some e))
      go None e = e

  empty : (t : ℕ) × (empty_slot l files ≡ Some t)
  empty = go (empty_slot l files) refl
    where
      go : (w : Lowest) → empty_slot l files ≡ w → (t : ℕ) × (empty_slot l files ≡ Some t)
      go (Some t) e = (t, e)
      go None e = absurd (not-refused (order_full l files name type content fit some new e))

  pub granted_put : Puts l files name type content s
  granted_put =
      let r = sym (order_room l files name type content fit some new empty.1) ∙ granted in
      let g = pass_if (ltb (free l files) (blocks_for (length content))) 15 _ s r in
      let h = pass_if (ltb 16777215 (length content)) 16 (Ok empty.0) s g.1 in
      let q : Ok empty.0 ≡ Ok s = h.1 in
      let z : empty.0 ≡ s = cc in
      let legal = both_true (legal_name l name) (legal_type l type) fit in
      record { name-legal = legal.0; type_legal = legal.1; some_content = ne_eqb (length content) 0 some; new-name = new; slot = rw z at empty.1; room = g.0; short = h.0 }

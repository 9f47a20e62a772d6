-- What a call that was granted a slot has passed.
-- Were one of its tests to fail, the order of the refusals would refuse it. Assumes nothing.
use Rattle.std.specs.Prelude.{◌≡◌, refl, Bool, true, false, not, List, ℕ, length, ltb, eqb, Ok, Some, None}
use Rattle.std.proofs.Common.{arith}
use Rattle.layout.specs.declared.Layout.{Layout}
use Rattle.blocks.specs.Blocks.{blocks_for}
use Rattle.names.specs.Names.{legal_name, legal_type}
use Rattle.record.specs.Record.{Files, refuse_if, or_refuse, is_legal, slot_of, empty_slot, free, judge_name, Judged}
use Rattle.laws.specs.Scan.{Lowest}

pub pass_if : (t : Bool) (n : ℕ) (next : Judged) (s : ℕ) → refuse_if t n next ≡ Ok s → (t ≡ false) × (next ≡ Ok s)
pass_if true n next s e = let z : ◌≡◌ {A = ℕ} 0 1 = cc in absurd (omega arith)
pass_if false n next s e = (refl, e)

pass_or : (n : ℕ) (w : Lowest) (next : ℕ → Judged) (s : ℕ) → or_refuse n w next ≡ Ok s → (k : ℕ) × (w ≡ Some k) × (next k ≡ Ok s)
pass_or n (Some k) next s e = (k, refl, e)
pass_or n None next s e = let z : ◌≡◌ {A = ℕ} 0 1 = cc in absurd (omega arith)

-- find and remove: the slot has the name and the type
pub granted_name : (l : Layout) (files : Files) (name : List ℕ) (type s : ℕ) → judge_name l files name type ≡ Ok s → slot_of l files name type ≡ Some s
unfolding judge_name
granted_name l files name type s e =
    let a = pass_if (not (is_legal l name type)) 11 (or_refuse 10 (slot_of l files name type) (λ s. Ok s)) s e in
    let b = pass_or 10 (slot_of l files name type) (λ s. Ok s) s a.1 in
    let h : Ok b.0 ≡ Ok s = b.2 in
    let z : b.0 ≡ s = cc in
    rw z at b.1

pub record Puts (l : Layout) (files : Files) (name : List ℕ) (type : ℕ) (content : List ℕ) (s : ℕ) : Type 0 where
  pub name-legal : legal_name l name ≡ true
  pub type_legal : legal_type l type ≡ true
  pub some_content : eqb (length content) 0 ≡ false
  pub new-name : slot_of l files name type ≡ None
  pub slot : empty_slot l files ≡ Some s
  pub room : ltb (free l files) (blocks_for (length content)) ≡ false
  pub short : ltb 16777215 (length content) ≡ false

-- Request three: a page of an accepted image costs what its bytes do, and a refused one nothing.
-- By the slot's file; above its length none of its bytes are left. Assumes nothing.
use Rattle.std.specs.Prelude.{◌≡◌, refl, Bool, true, false, List, ℕ, ◌-◌, min, ltb, length, Ok, Err}
use Rattle.std.proofs.Common.{sym, ap, ◌∙◌, arith, lt-ltb, ltb-true}
use Rattle.std.proofs.Math.Option.{Option, none, some}
use Rattle.laws.specs.declared.Refusal.{Refusal}
use Rattle.layout.specs.declared.Kind.{Kind}
use Rattle.layout.specs.declared.Density.{Density}
use Rattle.layout.specs.Layouts.{layout_of}
use Rattle.blocks.specs.Blocks.{blocks_for}
use Rattle.view.specs.Disk.{File}
use Rattle.image.specs.Image.{files_in}
use Rattle.record.specs.Record.{page, file_at, paging, Outcome}
use Rattle.rules.specs.Check.{check_of, call_of, Checked, accepting}
use Rattle.rules.specs.Demand.{slot_inside}
use Rattle.pages.specs.Cost.{no_cost, cost_of, cost_none}
use Rattle.calls.specs.Metered.{page_cost, cost_in}
use Rattle.calls.specs.Lemmas.Done.{page-done, cost_done}

pub page_cost_is : (k : Kind) (d : Density) (f n : ℕ) (img : List ℕ) → check_of img ≡ accepting k d f n → (slot : ℕ) (file : File) → files_in (layout_of k d) img slot ≡ some file
    → (offset room : ℕ) → cost_in img slot offset room ≡ cost_of (blocks_for (length file.content)) offset (min room (length file.content - offset))
unfolding cost_in file_at
page_cost_is k d f n img e slot file there offset room =
    let l = layout_of k d in rw (e, lt-ltb slot l.slots (slot_inside l img slot file there), there) refl

-- by the record's answer
refused-free : (img : List ℕ) (w : Option File) (offset : ℕ) (out : List ℕ) (r : Refusal) → (paging img w offset out).answer.refusal ≡ some r → page_cost w offset (length out) ≡ no_cost
refused-free img none offset out r e = refl
refused-free img (some f) offset out r e = go (ltb (length f.content) offset) refl
  where
    go : (t : Bool) → ltb (length f.content) offset ≡ t → page_cost (some f) offset (length out) ≡ no_cost
    go true h = cost_none (blocks_for (length f.content)) offset (min (length out) (length f.content - offset)) (omega (arith, ltb-true (length f.content) offset h))
    go false h = let z : none ≡ some r = rw h at e in absurd (let o : ◌≡◌ {A = ℕ} 0 1 = cc in omega arith)

pub refused_cost : (img : List ℕ) (slot offset : ℕ) (out : List ℕ) (r : Refusal) → (call_of img (page slot offset out)).answer.refusal ≡ some r → cost_in img slot offset (length out) ≡ no_cost
unfolding cost_in
refused_cost img slot offset out r e = go (check_of img) refl
  where
    go : (c : Checked) → check_of img ≡ c → cost_in img slot offset (length out) ≡ no_cost
    go (Err q) h = rw h refl
    go (Ok disk) h =
        let l = layout_of disk.kind disk.density in
        sym (cost_done img refl h refl slot offset (length out))
        ∙ refused-free img (file_at l (files_in l img) slot) offset out r (ap (λ (o : Outcome (List ℕ)). o.answer.refusal) (page-done img refl h refl slot offset out) ∙ e)

-- A download (demand 3): among calls made, pages of one slot, each from where those before it ended. They join to a beginning of the slot's file, and
-- that is all of it ↔ the last page says the end. Each page adds the next bytes of the content. Assumes nothing.
use Rattle.std.specs.Prelude.{◌≡◌, ◌⊎◌, eqb, length, take, drop}
use Rattle.std.proofs.Math.Path.{refl, sym, ap₂}
use Rattle.std.proofs.Common.{ap, ◌∙◌, inl, inr, length-take, take_at, take-add, take_all}
use mathlib.Core.List.{List, ◌∷◌, ◌++◌}
use Rattle.std.proofs.Math.Option.{some}
use Prim.Native.Nat.{ℕ, ◌-◌, ◌≤◌, ◌<◌, min}
use native.Mathlib.Omega.{arith}
use borrow.Author.Tests.{eqb-true, eq-eqb}
use Rattle.laws.specs.Splice.{part}
use Rattle.laws.specs.Lemmas.Splice.{length_part}
use Rattle.view.specs.Disk.{File}
use Rattle.record.specs.Record.{Shape, Files, page, Turn, page_of, step_files}
use Rattle.record.proofs.Others.{others}
use Rattle.record.specs.Download.{Pages, none, own, other, Got, nothing, with_page, got, Asked, Continues, Spared, Joins, Answered, page_is}

-- ---- on the record

record Begun (content : List ℕ) (g : Got) : Type 0 where
  bytes : g.bytes ≡ take g.sum content
  short : g.sum ≤ length content

record Paged (content : List ℕ) (g : Got) : Type 0 where
  begun : Begun content g
  ended : g.ended ≡ eqb g.sum (length content)

-- without a page to come nothing is added
ends : {ts : List Turn} (g : Got) (ps : Pages ts) → Continues ps ⊎ (got g ps ≡ g)
ends g none = inr refl
ends g (own ps) = inl tt
ends g (other ps) = ends g ps

module _ (shape : Shape) (slot : ℕ) (inside : slot < shape.layout.slots) (f : File) where
  page_begun : (files : Files) (g : Got) (out : List ℕ) → Begun f.content g
      → let o = page_of files f.content g.sum out in Paged f.content (with_page g o.answer o.output)
  unfolding part
  page_begun files g out b =
      let n = min (length out) (length f.content - g.sum) in
      let short = b.short in
      record {
        begun = record {
          bytes =
              ap₂ (λ (x y : List ℕ). x ++ y) b.bytes (take_at (part f.content g.sum n) (drop n out) n (length_part f.content g.sum n (omega arith)))
              ∙ sym (take-add g.sum n f.content);
          short = omega arith;
        };
        ended = refl;
      }

  -- a page that was made
  page_made : (files : Files) (g : Got) (t : Turn) (out : List ℕ) → files slot ≡ some f → Begun f.content g → t.call ≡ page slot g.sum out
      → t.answer ≡ (step_files shape files t.call).answer → t.output ≡ (step_files shape files t.call).output
      → Paged f.content (with_page g t.answer t.output) × ((step_files shape files t.call).state slot ≡ some f)
  page_made files g t out there b c a o =
      let e = ap (step_files shape files) c ∙ page_is shape slot inside f files there g.sum out b.short in
      (rw (a, o, e) (page_begun files g out b), rw e there)

  joined : {ts : List Turn} (ps : Pages ts) (files : Files) (g : Got) → Answered shape files ts → files slot ≡ some f → Asked slot g.sum ps → Spared shape.layout f ps → Paged f.content g
      → Paged f.content (got g ps)
  unfolding Answered
  joined none files g r there asked spared p = p
  joined (own {t = t} ps) files g r there asked spared p =
      let w = page_made files g t asked.0.0 there p.begun asked.0.1 r.0 r.1 in
      joined ps (step_files shape files t.call).state (with_page g t.answer t.output) r.2 w.1 asked.1 spared w.0
  joined (other {t = t} ps) files g r there asked spared p = go (joined ps (step_files shape files t.call).state g r.2) (ends g ps)
    where
      go : ((step_files shape files t.call).state slot ≡ some f → Asked slot g.sum ps → Spared shape.layout f ps → Paged f.content g → Paged f.content (got g ps)) → Continues ps ⊎ (got g ps ≡ g)
          → Paged f.content (got g ps)
      go ih (inl c) = ih (others shape files slot f there t.call (spared.0 c)) asked spared.1 p
      go ih (inr e) = rw e p

  joins : (g : Got) → Paged f.content g → Joins f.content g
  joins g p = record {
    beginning = p.begun.bytes;
    long = ap length p.begun.bytes ∙ omega (arith, length-take g.sum f.content, p.begun.short);
    whole = (
      λ w. p.ended ∙ eq-eqb g.sum (length f.content) (let z : length (take g.sum f.content) ≡ length f.content = ap length (sym p.begun.bytes ∙ w) in
          omega (arith, length-take g.sum f.content, p.begun.short)),
      λ w. p.begun.bytes ∙ take_all g.sum f.content (let z : g.sum ≡ length f.content = eqb-true g.sum (length f.content) (sym p.ended ∙ w) in omega arith),
    );
  }

  -- one page or more, the first at offset 0
  pub download : (t : Turn) {ts : List Turn} (ps : Pages ts) (files : Files) → Answered shape files (t ∷ ts) → files slot ≡ some f
      → Asked slot 0 (own {t = t} ps) → Spared shape.layout f ps → Joins f.content (got nothing (own {t = t} ps))
  unfolding Answered
  download t ps files r there asked spared =
      let w = page_made files nothing t asked.0.0 there (record { bytes = refl; short = omega arith }) asked.0.1 r.0 r.1 in
      let g = with_page nothing t.answer t.output in
      joins (got g ps) (joined ps (step_files shape files t.call).state g r.2 w.1 asked.1 spared w.0)

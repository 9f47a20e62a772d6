-- Disks that use the second directory (document 02, request five): what they are known by, what put writes to a slot, and what remove leaves of it.
-- The kind is known by slot 0's type and the density alone; put and remove by what they do to the entry. Assumes nothing.
use Rattle.std.proofs.Math.Path.{◌≡◌, ap}
use Rattle.std.specs.Prelude.{refl, List, ◌↔◌, ℕ, ◌≤◌, length, replicate, Ok, Err}
use Rattle.std.proofs.Common.{sym, ◌∙◌, true≢false, arith, le-ltb}
use Rattle.std.proofs.Math.Option.{none, some}
use Rattle.laws.specs.Refusals.{refusal_at}
use Rattle.laws.specs.Reader.{bytes}
use Rattle.layout.specs.declared.Kind.{Kind}
use Rattle.layout.specs.declared.Kind.TheVariants.{S3000}
use Rattle.layout.specs.declared.Density.{Density}
use Rattle.layout.specs.declared.Density.TheVariants.{Low, High}
use Rattle.layout.specs.declared.Layout.{Layout}
use Rattle.layout.specs.Layouts.{layout_of, length_of}
use Rattle.layout.proofs.Right.{layout_right}
use Rattle.names.specs.Names.{capitals}
use Rattle.map.specs.Map.{map_at}
use Rattle.view.specs.Disk.{File}
use Rattle.view.specs.Lemmas.Formed.{formed-parts}
use Rattle.view.specs.Lemmas.Kept.{owned_data}
use Rattle.image.specs.Image.{view_of, files_in, PassedOver, OfKind, DiskRules, new_entry}
use Rattle.image.specs.Lemmas.Effect.{remove_entry}
use Rattle.record.specs.Record.{shape_of, list, put, remove, Answer, Outcome, refused, valued, file_at, judge_put, step_files, Judged}
use Rattle.record.specs.Order.{order_unlisted}
use Rattle.record.specs.Step.{image_after, step_image}
use Rattle.record.proofs.Lemmas.Update.{put_effect}
use Rattle.rules.specs.Check.{known_of, check_of, call_of, accepting, known_as}
use Rattle.rules.specs.Accepted.{length_of_is}
use Rattle.rules.proofs.Accepts.{known_is, is_known, accepted-rules}
use Rattle.rules.specs.Exactly.{no_kind}
use Rattle.rules.proofs.Exactly.{refused_exactly}
use Rattle.rules.specs.Demand.{file-used}
use Rattle.rules.proofs.Demand.{call_is}
use Rattle.rules.proofs.Spelling.{removed}

-- ---- the kind

pub s3000_known : (img : List ℕ) → (known_of img ≡ known_as S3000 High) ↔ ((length img ≡ length_of High) × PassedOver (bytes img))
s3000_known img = (told, known)
  where
    told : known_of img ≡ known_as S3000 High → (length img ≡ length_of High) × PassedOver (bytes img)
    told e = let w = known_is (length img) (bytes img) S3000 High e in (w.0, w.1.in_use.passed_over_is.1 refl)

    known : (length img ≡ length_of High) × PassedOver (bytes img) → known_of img ≡ known_as S3000 High
    known p =
        is_known (length img) (bytes img) S3000 High p.0
        (record { in_use = record { passed_over_is = (λ q. refl, λ q. p.1); dense = λ q. refl }; identified = λ e. absurd (true≢false e) })

-- at low density it is refused, whatever the identities
pub passed_over-low : (img : List ℕ) → length img ≡ length_of Low → PassedOver (bytes img) → check_of img ≡ Err (refusal_at 2 0)
passed_over-low img n p = (refused_exactly img (refusal_at 2 0)).1 (no_kind Low n none_so)
  where
    none_so : (k : Kind) → OfKind (layout_of k Low) (bytes img) → ⊥
    none_so k o = omega (arith, o.in_use.dense (o.in_use.passed_over_is.0 p), length_of_is k Low)

-- ---- a slot after put and after remove

module _ (k : Kind) (d : Density) (f n : ℕ) (img : List ℕ) (accept : check_of img ≡ accepting k d f n) where
  abbrev l : Layout
  l = layout_of k d

  abbrev rules : DiskRules l img
  rules = accepted-rules k d f n img accept

  written_by_is : (name : List ℕ) (type : ℕ) (content : List ℕ) (s : ℕ) (j : Judged) → judge_put l (files_in l img) name type content ≡ j
      → (step_image (shape_of k d) img (put name type content)).answer ≡ valued s
      → (view_of l (bytes (step_image (shape_of k d) img (put name type content)).state)).entry s ≡ new_entry l (map_at (bytes img)) name type content
  unfolding step_image image_after step_files
  written_by_is name type content s (Err r) e a = let z : some r ≡ none = ap (λ (x : Answer). x.refusal) (rw e at a) in absurd (let o : ◌≡◌ {A = ℕ} 0 1 = cc in omega arith)
  written_by_is name type content s (Ok t) e a =
      let z : t ≡ s = ap (λ (x : Answer). x.value) (rw e at a) in
      rw (e, ← z) (put_effect l (layout_right k d) img rules name type content t e).made

  -- A put's slot holds the entry that put makes of its arguments, the layout's identity included.
  pub put_writes : (name : List ℕ) (type : ℕ) (content : List ℕ) (s : ℕ) → (call_of img (put name type content)).answer ≡ valued s
      → (view_of l (bytes (call_of img (put name type content)).state)).entry s ≡ new_entry l (map_at (bytes img)) name type content
  put_writes name type content s a =
      let made = call_is k d img (put name type content) rules in
      rw made (written_by_is name type content s (judge_put l (files_in l img) name type content) refl (sym (ap (λ (o : Outcome (List ℕ)). o.answer) made) ∙ a))

  -- A removed file's slot is zeros but for the layout's identity.
  pub remove_leaves : (slot : ℕ) (file : File) → files_in l img slot ≡ some file → (name : List ℕ) → capitals l name ≡ file.name
      → (view_of l (bytes (call_of img (remove name file.type)).state)).entry slot ≡ record { area = replicate 16 0; type = 0; size = 0; start = 0; identity = l.identity }
  remove_leaves slot file there name spells =
      let u = file-used l img slot file there in
      let e = (view_of l (bytes img)).entry slot in
      rw (removed k d f n img accept slot file there name spells)
      (remove_entry l (layout_right k d) img rules.size slot u.0 (λ b i. owned_data l (layout_right k d) (view_of l (bytes img)) rules.valid slot b (u, i))
      ∙ ap (λ (own : ℕ). record { area = replicate 16 0; type = 0; size = 0; start = 0; identity = own }) (formed-parts l e (rules.valid.legal slot u)).own)

  -- ---- slots that aren't there

  pub list_past : (slot : ℕ) → l.slots ≤ slot → (call_of img (list slot)).answer ≡ refused 10 0
  unfolding step_image file_at
  list_past slot h =
      ap (λ (o : Outcome (List ℕ)). o.answer) (call_is k d img (list slot) rules) ∙ order_unlisted (shape_of k d) (files_in l img) slot (rw (le-ltb slot l.slots h) refl)

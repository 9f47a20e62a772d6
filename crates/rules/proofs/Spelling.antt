-- Names in any spelling on an accepted disk (document 02, request two): a call comes to the same as with its name in capitals, so two spellings are one name;
-- names are kept in capitals; and a file is found, in the way of a put, and removed by every spelling of its name and by its type. A name and a type stand in one
-- slot. Assumes nothing.
use Rattle.std.proofs.Math.Path.{◌≡◌, refl, sym, ap}
use Rattle.std.proofs.Common.{◌∙◌, arith}
use Rattle.std.specs.Prelude.{true, List, [], ℕ, length, Ok, Some, Err}
use Rattle.std.proofs.Math.Option.{Option, none, some}
use borrow.Author.Tests.{eq-eqb}
use Rattle.laws.specs.Lemmas.Truth.{true_both}
use Rattle.laws.specs.Reader.{bytes}
use Rattle.layout.specs.declared.Kind.{Kind}
use Rattle.layout.specs.declared.Density.{Density}
use Rattle.layout.specs.declared.Layout.{Layout}
use Rattle.layout.specs.Layouts.{layout_of, slot_offset}
use Rattle.layout.proofs.Right.{layout_right}
use Rattle.names.specs.Names.{legal_name, legal_area, legal_type, name_of, area_of, capitals}
use Rattle.names.specs.NameLaws.{area_back, name-legal}
use Rattle.names.proofs.NameLaws.{name-capitals, capitals-legal}
use Rattle.view.specs.Disk.{File, file_of}
use Rattle.view.specs.Lemmas.Kept.{file_at_is}
use Rattle.view.specs.Lemmas.Formed.{formed-parts}
use Rattle.image.specs.Lemmas.Entries.{length-area}
use Rattle.image.specs.Image.{view_of, files_in, DiskRules, remove_image}
use Rattle.record.specs.Record.{shape_of, Files, Call, find, put, remove, Answer, Outcome, refused, valued, done, is_legal, kept_file, replaced, slot_of, judge_put, step_files, Judged}
use Rattle.record.specs.Order.{order_found, order_taken}
use Rattle.record.specs.Step.{image_after, step_image}
use Rattle.record.specs.Spelling.{in_capitals}
use Rattle.record.proofs.Spelling.{image_spelled}
use Rattle.record.specs.Types.{Apart}
use Rattle.record.proofs.Types.{slot_held}
use Rattle.rules.specs.Check.{check_of, came, call_of, accepting}
use Rattle.rules.proofs.Accepts.{accepted-rules}
use Rattle.rules.specs.Demand.{slot_inside, file-used}
use Rattle.rules.proofs.Demand.{call_is, files-after}

-- the name of a slot's file, and its type
abbrev name_or : Option File → List ℕ
name_or none = []
name_or (some file) = file.name

abbrev type_or : Option File → ℕ
type_or none = 0
type_or (some file) = file.type

module _ (k : Kind) (d : Density) (f n : ℕ) (img : List ℕ) (accept : check_of img ≡ accepting k d f n) where
  abbrev l : Layout
  l = layout_of k d

  abbrev files : Files
  files = files_in l img

  abbrev rules : DiskRules l img
  rules = accepted-rules k d f n img accept

  -- A call comes to the same as with its name in capitals.
  pub spelled : (c : Call) → call_of img (in_capitals l c) ≡ call_of img c
  spelled c = call_is k d img (in_capitals l c) rules ∙ image_spelled (shape_of k d) img c ∙ sym (call_is k d img c rules)

  -- So do calls that differ in the spelling of their name alone.
  pub one_name : (c e : Call) → in_capitals l c ≡ in_capitals l e → call_of img c ≡ call_of img e
  one_name c e alike = sym (spelled c) ∙ ap (call_of img) alike ∙ spelled e

  -- ---- what a put keeps

  kept_by : (name : List ℕ) (type : ℕ) (content : List ℕ) (s : ℕ) (j : Judged) → judge_put l files name type content ≡ j → (step_files (shape_of k d) files (put name type content)).answer ≡ valued s
      → (step_files (shape_of k d) files (put name type content)).state s ≡ some (kept_file l name type content)
  unfolding step_files replaced
  kept_by name type content s (Err r) e a = let z : some r ≡ none = ap (λ (x : Answer). x.refusal) (rw e at a) in absurd (let o : ◌≡◌ {A = ℕ} 0 1 = cc in omega arith)
  kept_by name type content s (Ok t) e a = let z : t ≡ s = ap (λ (x : Answer). x.value) (rw e at a) in rw (e, z, eq-eqb s s refl) refl

  -- The file that a put leaves has the name's capitals.
  pub put_keeps : (name : List ℕ) (type : ℕ) (content : List ℕ) (s : ℕ) → (call_of img (put name type content)).answer ≡ valued s
      → files_in l (call_of img (put name type content)).state s ≡ some (kept_file l name type content)
  unfolding step_image
  put_keeps name type content s a =
      files-after k d img (put name type content) rules s
      ∙ kept_by name type content s (judge_put l files name type content) refl (sym (ap (λ (x : Outcome (List ℕ)). x.answer) (call_is k d img (put name type content) rules)) ∙ a)

  -- ---- a file by its name and type

  abbrev area : ℕ → List ℕ
  area s = ((view_of l (bytes img)).entry s).area

  name_in : (s : ℕ) (file : File) → files s ≡ some file → file.name ≡ name_of l (area s)
  unfolding file_of
  name_in s file there =
      let u = file-used l img s file there in
      sym (ap name_or there) ∙ ap name_or (file_at_is l (view_of l (bytes img)) s u.0) ∙ rw u.1 refl

  type_in : (s : ℕ) (file : File) → files s ≡ some file → file.type ≡ ((view_of l (bytes img)).entry s).type
  unfolding file_of
  type_in s file there =
      let u = file-used l img s file there in
      sym (ap type_or there) ∙ ap type_or (file_at_is l (view_of l (bytes img)) s u.0) ∙ rw u.1 refl

  legal-area : (s : ℕ) (file : File) → files s ≡ some file → legal_area l (area s) ≡ true
  legal-area s file there = (formed-parts l ((view_of l (bytes img)).entry s) (rules.valid.legal s (file-used l img s file there))).area

  area_in : (s : ℕ) (file : File) → files s ≡ some file → area_of l file.name ≡ area s
  area_in s file there = ap (area_of l) (name_in s file there) ∙ area_back l (layout_right k d) (area s) (legal-area s file there)

  -- No name stands twice within one type (document 02, request six).
  pub one_of_a_type : Apart files
  one_of_a_type s t a b here there name type =
      rules.valid.single s t (file-used l img s a here) (file-used l img t b there) (
        sym (area_in s a here) ∙ ap (area_of l) name ∙ area_in t b there,
        sym (type_in s a here) ∙ type ∙ type_in t b there,
      )

  module _ (slot : ℕ) (file : File) (there : files slot ≡ some file) where
    -- Names on the disk are capitals.
    pub kept_name_is : capitals l file.name ≡ file.name
    kept_name_is =
        rw (name_in slot file there) (name-capitals l (layout_right k d) (area slot) (legal-area slot file there) (length-area (bytes img) (slot_offset l slot)))

    -- a spelling of the file's name
    module _ (name : List ℕ) (spells : capitals l name ≡ file.name) where
      pub legal : is_legal l name file.type ≡ true
      legal =
          true_both (legal_name l name) (legal_type l file.type)
          (sym (capitals-legal l name) ∙ ap (legal_name l) (spells ∙ name_in slot file there)
          ∙ name-legal l (layout_right k d) (area slot) (legal-area slot file there) (length-area (bytes img) (slot_offset l slot)))
          (rw (type_in slot file there) (formed-parts l ((view_of l (bytes img)).entry slot) (rules.valid.legal slot (file-used l img slot file there))).type)

      at_slot : slot_of l files name file.type ≡ Some slot
      at_slot = slot_held l files one_of_a_type name file.type slot (slot_inside l img slot file there) (file, there, spells, refl)

      -- its slot is found
      pub found : call_of img (find name file.type) ≡ came (valued slot) [] img
      unfolding step_image image_after step_files
      found = call_is k d img (find name file.type) rules ∙ rw (order_found l files name file.type legal at_slot) refl

      -- put of its type answers 12 at its slot, if content is given
      pub taken : (content : List ℕ) → (length content ≡ 0 → ⊥) → call_of img (put name file.type content) ≡ came (refused 12 slot) [] img
      unfolding step_image image_after step_files
      taken content given = call_is k d img (put name file.type content) rules ∙ rw (order_taken l files name file.type content legal given at_slot) refl

      -- and its slot is emptied
      pub removed : call_of img (remove name file.type) ≡ came done [] (remove_image l img slot)
      unfolding step_image image_after step_files
      removed = call_is k d img (remove name file.type) rules ∙ rw (order_found l files name file.type legal at_slot) refl

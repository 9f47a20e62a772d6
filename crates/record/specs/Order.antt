-- The order of each call's refusals on the record (document 01, "The numbers given back"): find and remove 11, 10; list 10; page 10, 17; put
-- 11, 13, 12, 14, then 15 and 16.
-- Each is given whenever its own test fails and those before it pass, whatever the later ones would say. Assumes nothing.
use Rattle.std.specs.Prelude.{◌≡◌, true, false, List, ℕ, ◌<◌, ltb, length, Ok, Some, None}
use Rattle.std.proofs.Math.Path.{refl}
use Rattle.std.proofs.Math.Option.{none, some}
use borrow.Author.Tests.{eq-eqb, ne_eqb, lt-ltb}
use Rattle.layout.specs.declared.Layout.{Layout}
use Rattle.blocks.specs.Blocks.{blocks_for}
use Rattle.view.specs.Disk.{File}
use Rattle.record.specs.Record.{Shape, Files, list, page, refused, refuse, refuse_if, is_legal, slot_of, empty_slot, free, judge_name, judge_put, file_at, step_files, Judged}

-- ---- find and remove

module _ (l : Layout) (files : Files) (name : List ℕ) (type : ℕ) where
  -- whether a file has the name or not
  pub order_illegal : is_legal l name type ≡ false → judge_name l files name type ≡ refuse 11 0
  unfolding judge_name
  order_illegal e = rw e refl

  module _ (legal : is_legal l name type ≡ true) where
    pub order_missing : slot_of l files name type ≡ None → judge_name l files name type ≡ refuse 10 0
    unfolding judge_name
    order_missing e = rw (legal, e) refl

    pub order_found : {s : ℕ} → slot_of l files name type ≡ Some s → judge_name l files name type ≡ Ok s
    unfolding judge_name
    order_found e = rw (legal, e) refl

-- ---- list and page

module _ (shape : Shape) (files : Files) (s : ℕ) where
  pub order_unlisted : file_at shape.layout files s ≡ none → (step_files shape files (list s)).answer ≡ refused 10 0
  unfolding step_files
  order_unlisted e = rw e refl

  module _ (offset : ℕ) (out : List ℕ) where
    -- whatever the offset
    pub order_unpaged : file_at shape.layout files s ≡ none → (step_files shape files (page s offset out)).answer ≡ refused 10 0
    unfolding step_files
    order_unpaged e = rw e refl

    pub order_above : (f : File) → file_at shape.layout files s ≡ some f → length f.content < offset → (step_files shape files (page s offset out)).answer ≡ refused 17 0
    unfolding step_files
    order_above f e h = rw (e, lt-ltb (length f.content) offset h) refl

-- ---- put

-- The last two refusals, for a content of so many bytes where so many blocks are free.
abbrev pub room_for : ℕ → ℕ → ℕ → Judged
room_for free size slot = refuse_if (ltb free (blocks_for size)) 15 (refuse_if (ltb 16777215 size) 16 (Ok slot))

module _ (l : Layout) (files : Files) (name : List ℕ) (type : ℕ) (content : List ℕ) where
  pub order_unfit : is_legal l name type ≡ false → judge_put l files name type content ≡ refuse 11 0
  unfolding judge_put
  order_unfit e = rw e refl

  module _ (legal : is_legal l name type ≡ true) where
    pub order_empty : length content ≡ 0 → judge_put l files name type content ≡ refuse 13 0
    unfolding judge_put
    order_empty e = rw (legal, eq-eqb (length content) 0 e) refl

    module _ (some : length content ≡ 0 → ⊥) where
      -- with an empty slot or without
      pub order_taken : {s : ℕ} → slot_of l files name type ≡ Some s → judge_put l files name type content ≡ refuse 12 s
      unfolding judge_put
      order_taken e = rw (legal, ne_eqb (length content) 0 some, e) refl

      -- with room or without
      pub order_full : slot_of l files name type ≡ None → empty_slot l files ≡ None → judge_put l files name type content ≡ refuse 14 0
      unfolding judge_put
      order_full new e = rw (legal, ne_eqb (length content) 0 some, new, e) refl

      pub order_room : {s : ℕ} → slot_of l files name type ≡ None → empty_slot l files ≡ Some s → judge_put l files name type content ≡ room_for (free l files) (length content) s
      unfolding judge_put
      order_room new e = rw (legal, ne_eqb (length content) 0 some, new, e) refl

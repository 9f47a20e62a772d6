-- Every number that a call answers takes at most three bytes, on any image: refusals, of which none is 0, places, slots, counts and lengths.
-- The refusals are written out, places and slots lie on the disk, and a file is no longer than the data area. Assumes nothing.
use Rattle.std.proofs.Math.Path.{◌≡◌, refl}
use Rattle.std.proofs.Common.{ap, inl, inr, arith, ltb-true}
use Rattle.std.specs.Prelude.{Bool, not, List, [], ◌⊎◌, ℕ, ◌+◌, ◌≤◌, ◌<◌, eqb, length, Ok, None, Some, Err}
use Rattle.std.proofs.Math.Bool.{true, false}
use Rattle.std.proofs.Math.Option.{Option, none, some}
use Rattle.std.proofs.Math.Dec.{ltb}
use Rattle.laws.specs.Reader.{bytes}
use Rattle.laws.specs.Scan.{lowest, Lowest}
use Rattle.laws.specs.Lemmas.Scan.{at→, count_split, total-has}
use Rattle.layout.specs.declared.Kind.{Kind}
use Rattle.layout.specs.declared.Density.{Density}
use Rattle.layout.specs.declared.Layout.{Layout}
use Rattle.layout.specs.Layouts.{layout_of}
use Rattle.layout.specs.Right.{LayoutRight}
use Rattle.layout.proofs.Right.{layout_right}
use Rattle.blocks.specs.Blocks.{blocks_for, links_for}
use Rattle.map.specs.Map.{Astray, Miscounted}
use Rattle.laws.specs.declared.Refusal.{Refusal}
use Rattle.laws.specs.Refusals.{refusal_at, number_of, place_of}
use Rattle.view.specs.Disk.{View, File, takes}
use Rattle.view.specs.Broken.{Rule, system, legal, single, linked, apart, owner, Breaks}
use Rattle.image.specs.Image.{view_of, files_in, DiskRules}
use Rattle.salvage.specs.Salvage.{salvage_image, map_changes}
use Rattle.salvage.specs.Theorems.{changes_few}
use Rattle.record.specs.Record.{shape_of, Files, Call, check, list, find, page, put, remove, salvage, refused_by, refused, gives, refuse_if, refuse_at, or_refuse, replaced, is_legal, slot_of, empty_slot, is_empty, named, kept_file, file_count, free, judge_name, judge_put, file_at, listing, finding, putting, removing, paging, salvaging, step_files, Judged}
use Rattle.record.specs.Lemmas.Update.{area_split}
use Rattle.record.specs.Step.{step_image}
use Rattle.rules.specs.Check.{known_of, check_of, salvage_as, salvage_of, unaccepted, call_by, call_of, Checked, Known}
use Rattle.rules.specs.Exactly.{Owed, no_density, no_kind, by_rule}
use Rattle.rules.proofs.Exactly.{unknown_owed, refused_exactly}
use Rattle.rules.proofs.Accepts.{accepted-rules}
use Rattle.rules.specs.Small.{Small, Numbered, AllSmall}
use Rattle.laws.specs.Lemmas.Refusals.{numbered, place_most}

lowest_small : (f : ℕ → Bool) (i n p : ℕ) → i + n ≤ 16777216 → lowest f i n ≡ Some p → Small p
lowest_small f i n p h e = let w = at→ f i n p e in let q : p < i + n = w.1 in omega arith

-- ---- the check

-- every refusal is one of the table, so that its place alone is asked for
of_place : (r : Refusal) → Small (place_of r) → Numbered r
of_place r h = let n = numbered r in record { some = n.0; most = n.1; place = h }

no_place : (n : ℕ) → Numbered (refusal_at n 0)
no_place n = of_place (refusal_at n 0) (omega (arith, place_most n 0))

slots_small : (l : Layout) → LayoutRight l → l.slots < 1000000
slots_small l right = omega (arith, right.directory_low, right.data_some, right.blocks_most)

due_small : (l : Layout) → LayoutRight l → (v : View) (r : Refusal) (rule : Rule) → Breaks l v rule (number_of r) (place_of r) → Numbered r
due_small l right v r system b = of_place r (omega (arith, b.1, right.system_low, right.data_some, right.blocks_most))
due_small l right v r legal b = of_place r (omega (arith, b.1.0, slots_small l right))
due_small l right v r single b = of_place r (omega (arith, b.1.0, slots_small l right))
due_small l right v r linked b = chain b.1
  where
    chain : (((number_of r) ≡ 6) × Astray l v.map (links_for (v.entry (place_of r)).size) (v.entry (place_of r)).start) ⊎ (((number_of r) ≡ 7) × Miscounted l v.map (links_for (v.entry (place_of r)).size) (v.entry (place_of r)).start) → Numbered r
    chain (inl a) = of_place r (omega (arith, b.0.0, slots_small l right))
    chain (inr c) = of_place r (omega (arith, b.0.0, slots_small l right))
due_small l right v r apart b = of_place r (omega (arith, b.1.2.1.0.0, slots_small l right))
due_small l right v r owner b = of_place r (omega (arith, b.1.1, right.blocks_most))

check_small : (img : List ℕ) (r : Refusal) → Owed img r → Numbered r
check_small img r (no_density n) = no_place 1
check_small img r (no_kind d e n) = no_place 2
check_small img r (by_rule k d e i due) = due_small (layout_of k d) (layout_right k d) (view_of (layout_of k d) (bytes img)) r due.rule due.broken

-- ---- a call's judgement

abbrev SmallJudged : Judged → Type 0
SmallJudged (Err r) = Numbered r
SmallJudged (Ok slot) = Small slot

if_small : (t : Bool) (n : ℕ) (next : Judged) → SmallJudged next → SmallJudged (refuse_if t n next)
if_small true n next r = no_place n
if_small false n next r = r

at_small : (n : ℕ) (w : Lowest) (next : Judged) → ((p : ℕ) → w ≡ Some p → Small p) → SmallJudged next → SmallJudged (refuse_at n w next)
at_small n (Some p) next k r = of_place (refusal_at n p) (let h = k p refl in omega (arith, place_most n p))
at_small n None next k r = r

else_small : (n : ℕ) (w : Lowest) (next : ℕ → Judged) → ((p : ℕ) → w ≡ Some p → SmallJudged (next p)) → SmallJudged (or_refuse n w next)
else_small n (Some p) next r = r p refl
else_small n None next r = no_place n

module _ (l : Layout) (right : LayoutRight l) (files : Files) (name : List ℕ) (type : ℕ) where
  slot_small : (p : ℕ) → slot_of l files name type ≡ Some p → Small p
  unfolding slot_of
  slot_small p = lowest_small (λ s. named l name type (files s)) 0 l.slots p (let h = slots_small l right in omega arith)

  empty_small : (p : ℕ) → empty_slot l files ≡ Some p → Small p
  unfolding empty_slot
  empty_small p = lowest_small (λ s. is_empty (files s)) 0 l.slots p (let h = slots_small l right in omega arith)

  name_small : SmallJudged (judge_name l files name type)
  unfolding judge_name
  name_small = if_small (not (is_legal l name type)) 11 _ (else_small 10 (slot_of l files name type) (λ s. Ok s) slot_small)

  put_small : (content : List ℕ) → SmallJudged (judge_put l files name type content)
  unfolding judge_put
  put_small content =
      if_small (not (is_legal l name type)) 11 _
      (if_small (eqb (length content) 0) 13 _
      (at_small 12 (slot_of l files name type) _ slot_small
      (else_small 14 (empty_slot l files) _ (λ p e.
      if_small (ltb (free l files) (blocks_for (length content))) 15 _
      (if_small (ltb 16777215 (length content)) 16 (Ok p)
      (empty_small p e))))))

-- ---- a file on an accepted image

module _ (l : Layout) (right : LayoutRight l) (img : List ℕ) (rules : DiskRules l img) where
  -- a file of L bytes takes L / 1,024 blocks, rounded up, of the data area
  content_small : (s : ℕ) (file : File) → s < l.slots → files_in l img s ≡ some file → Small (length file.content)
  content_small s file h e =
      let a = area_split l right img rules in
      let t = total-has (λ s. takes (files_in l img s)) 0 l.slots s (omega arith) (omega arith) in
      let q : takes (files_in l img s) ≡ blocks_for (length file.content) = ap takes e in
      let most = right.blocks_most in
      omega arith

  held_small : (s : ℕ) (file : File) → file_at l (files_in l img) s ≡ some file → Small (length file.content)
  unfolding file_at
  held_small s file e = go (ltb s l.slots) refl
    where
      go : (t : Bool) → ltb s l.slots ≡ t → Small (length file.content)
      go true p = content_small s file (ltb-true s l.slots p) (rw p at e)
      go false p = let z : none ≡ some file = rw p at e in let o : ◌≡◌ {A = ℕ} 0 1 = cc in absurd (omega arith)

-- ---- what a call answers

refused_small : (r : Refusal) → Numbered r → AllSmall (refused_by r)
refused_small r h = record { refusal = h; value = omega arith; free = omega arith }

gives_small : (n : ℕ) (name : List ℕ) (type : ℕ) (end : Bool) → Small n → AllSmall (gives n name type end)
gives_small n name type end h = record { refusal = tt; value = h; free = omega arith }

no_file : AllSmall (refused 10 0)
no_file = refused_small (refusal_at 10 0) (no_place 10)

no_room_is : AllSmall (refused 21 0)
no_room_is = refused_small (refusal_at 21 0) (no_place 21)

module _ (files : Files) where
  listing_small : (w : Option File) → ((f : File) → w ≡ some f → Small (length f.content)) → AllSmall (listing files w).answer
  listing_small none h = no_file
  listing_small (some f) h = gives_small (length f.content) f.name f.type false (h f refl)

  finding_small : (j : Judged) → SmallJudged j → AllSmall (finding files j).answer
  finding_small (Err r) h = refused_small r h
  finding_small (Ok s) h = gives_small s [] 0 false h

  putting_small : (after : ℕ → Files) (j : Judged) → SmallJudged j → AllSmall (putting files after j).answer
  putting_small after (Err r) h = refused_small r h
  putting_small after (Ok s) h = gives_small s [] 0 false h

  removing_small : (after : ℕ → Files) (j : Judged) → SmallJudged j → AllSmall (removing files after j).answer
  removing_small after (Err r) h = refused_small r h
  removing_small after (Ok s) h = gives_small 0 [] 0 false (omega arith)

  paging_small : (w : Option File) (offset : ℕ) (out : List ℕ) → ((f : File) → w ≡ some f → Small (length f.content)) → AllSmall (paging files w offset out).answer
  paging_small none offset out h = no_file
  paging_small (some f) offset out h = go (ltb (length f.content) offset) refl
    where
      go : (t : Bool) → ltb (length f.content) offset ≡ t → AllSmall (paging files (some f) offset out).answer
      go true e = rw e (refused_small (refusal_at 17 0) (no_place 17))
      go false e = rw e (let k = h f refl in gives_small _ [] 0 _ (omega arith))

  salvaging_small : (l : Layout) (report : List ℕ) → AllSmall (salvaging files l files report).answer
  salvaging_small l report = go (ltb (length report) l.slots) refl
    where
      go : (t : Bool) → ltb (length report) l.slots ≡ t → AllSmall (salvaging files l files report).answer
      go true e = rw e no_room_is
      go false e = rw e (gives_small 0 [] 0 false (omega arith))

step_small : (k : Kind) (d : Density) (img : List ℕ) → DiskRules (layout_of k d) img → (c : Call) → AllSmall (step_files (shape_of k d) (files_in (layout_of k d) img) c).answer
unfolding step_files file_count free
step_small k d img rules check =
    let l = layout_of k d in
    let right = layout_right k d in
    let most = right.blocks_most in
    let slots = slots_small l right in
    let n = count_split (λ s. not (is_empty (files_in l img s))) 0 l.slots in
    record { refusal = tt; value = omega arith; free = omega arith }
step_small k d img rules (list s) =
    let l = layout_of k d in listing_small (files_in l img) (file_at l (files_in l img) s) (held_small l (layout_right k d) img rules s)
step_small k d img rules (find name type) =
    let l = layout_of k d in finding_small (files_in l img) (judge_name l (files_in l img) name type) (name_small l (layout_right k d) (files_in l img) name type)
step_small k d img rules (page s offset out) =
    let l = layout_of k d in paging_small (files_in l img) (file_at l (files_in l img) s) offset out (held_small l (layout_right k d) img rules s)
step_small k d img rules (put name type content) =
    let l = layout_of k d in
    let files = files_in l img in
    putting_small files (λ s. replaced files s (some (kept_file l name type content))) (judge_put l files name type content)
    (put_small l (layout_right k d) files name type content)
step_small k d img rules (remove name type) =
    let l = layout_of k d in
    let files = files_in l img in
    removing_small files (λ s. replaced files s none) (judge_name l files name type) (name_small l (layout_right k d) files name type)
step_small k d img rules (salvage report) = let l = layout_of k d in salvaging_small (files_in l img) l report

-- the salvage run: no more map values than blocks
run_small : (img report : List ℕ) → AllSmall (salvage_of img report).answer
unfolding salvage_of salvage_as
run_small img report = go (known_of img) refl
  where
    by_room : (k : Kind) (d : Density) → (t : Bool) → ltb (length report) (layout_of k d).slots ≡ t → AllSmall (salvage_as (layout_of k d) img report).answer
    by_room k d true h = rw h no_room_is
    by_room k d false h =
        let l = layout_of k d in
        rw h (gives_small (map_changes l img (salvage_image l img)) [] 0 false (omega (arith, changes_few l img (salvage_image l img), (layout_right k d).blocks_most)))

    go : (x : Known) → known_of img ≡ x → AllSmall (salvage_of img report).answer
    go (Err r) e = rw e (refused_small r (check_small img r (unknown_owed img r e)))
    go (Ok disk) e = rw e (by_room disk.kind disk.density (ltb (length report) (layout_of disk.kind disk.density).slots) refl)

unaccepted_small : (r : Refusal) (img : List ℕ) (c : Call) → Numbered r → AllSmall (unaccepted r img c).answer
unaccepted_small r img check h = refused_small r h
unaccepted_small r img (list s) h = refused_small r h
unaccepted_small r img (find name type) h = refused_small r h
unaccepted_small r img (page s offset out) h = refused_small r h
unaccepted_small r img (put name type content) h = refused_small r h
unaccepted_small r img (remove name type) h = refused_small r h
unaccepted_small r img (salvage report) h = run_small img report

-- No call answers a number that takes more than three bytes, whatever the image, nor a refusal that the table doesn't have.
pub call_small : (img : List ℕ) (c : Call) → AllSmall (call_of img c).answer
unfolding call_of step_image
call_small img c = go (check_of img) refl
  where
    go : (w : Checked) → check_of img ≡ w → AllSmall (call_by w img c).answer
    go (Ok disk) e = step_small disk.kind disk.density img (accepted-rules disk.kind disk.density disk.files disk.free img e) c
    go (Err r) e = unaccepted_small r img c (check_small img r ((refused_exactly img r).0 e))

-- No refusal has number 0.
pub refusal_numbered : (img : List ℕ) (c : Call) (r : Refusal) → (call_of img c).answer.refusal ≡ some r → Numbered r
refusal_numbered img c r e = rw e at (call_small img c).refusal

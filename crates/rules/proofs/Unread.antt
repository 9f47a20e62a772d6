-- A first directory that isn't in use is neither read nor changed by any call, but for its byte 16, which tells the kind (document 02, request five).
-- Directory in use, map and data blocks lie past it, so images that differ in it alone show one disk; whatever is written is written to both. Assumes nothing.
use Rattle.std.specs.Prelude.{◌≡◌, Bool, List, ◌++◌, ◌⊎◌, eqb, length, Ok, Err}
use Rattle.std.proofs.Math.Path.{refl, sym, ap, ap₂, fun_ext}
use Rattle.std.proofs.Common.{◌∙◌, inl, inr, arith}
use Rattle.std.proofs.Math.Bool.{true, false, not}
use Prim.Native.Nat.{ℕ, zero, suc, ◌≤◌, ◌<◌}
use Rattle.std.proofs.Math.Decide.{dec_lt}
use Rattle.std.proofs.Math.Dec.{ltb}
use Rattle.std.proofs.Math.ListN.{drop}
use Rattle.laws.specs.declared.Refusal.{Refusal}
use Rattle.laws.specs.Scan.{those, count}
use Rattle.laws.specs.Reader.{bytes, tab}
use Rattle.laws.specs.Lemmas.Reader.{tab_cong}
use Rattle.layout.specs.declared.Kind.{Kind}
use Rattle.layout.specs.declared.Density.{Density}
use Rattle.layout.specs.declared.Layout.{Layout}
use Rattle.layout.specs.Layouts.{layout_of, length_of, slot_offset, map_offset, block_offset}
use Rattle.layout.specs.Right.{LayoutRight}
use Rattle.layout.proofs.Right.{layout_right}
use Rattle.blocks.specs.Lemmas.Numbers.{number_cong}
use Rattle.blocks.specs.Blocks.{block_at}
use Rattle.map.specs.Map.{map_at, set_all}
use Rattle.view.specs.Disk.{View, Entry, chain_of, entry_chain, owned}
use Rattle.view.specs.Rules.{bad_system, malformed, has_name_of, repeated, walk_of, broken, sharing, stray}
use Rattle.view.specs.Lemmas.Kept.{file_at_is, file-out, file_kept, owned_data}
use Rattle.image.specs.Image.{entry_at, view_of, files_in, InUse, DiskRules, erase_entry, remove_image, set_entry, chosen, new_entry, fill_blocks, put_image}
use Rattle.image.specs.Lemmas.Entries.{entry_cong}
use Rattle.salvage.specs.Salvage.{with_entries, verdict, drops, entries_after, report_of, dropped_slots, wrong_system, stray_blocks, erase_slots, salvage_image, map_changes, report_after}
use Rattle.salvage.proofs.Theorems.{salvage_first}
use Rattle.record.specs.Record.{shape_of, Files, Call, check, list, find, page, put, remove, salvage, valued, judge_name, judge_put, step_files, Judged}
use Rattle.record.specs.Step.{after, image_after, step_image}
use Rattle.rules.specs.Check.{known_head, known_of, check_of, salvage_as, salvage_of, unaccepted, call_by, call_of, Checked, known_as}
use Rattle.rules.proofs.Accepts.{known_is, rules_known, accepted-rules}
use Rattle.rules.proofs.Outside.{system_kept}
use Rattle.rules.proofs.Salvage.{known_size}
use Rattle.rules.specs.Head.{Read}
use Rattle.rules.proofs.Head.{same_known, check_reads}
use Rattle.rules.specs.Lemmas.Alike.{Alike, set-all_alike, put_alike, erase_alike, erase_slots_alike}
use Rattle.rules.specs.Unread.{SameButFirst, Unseen}
use Rattle.rules.specs.Lemmas.Steps.{known_as_is}

-- ---- the salvage run's judgement reads no data block

module _ (l : Layout) (v : View) (block : ℕ → List ℕ) where
  -- the disk with other bytes in its blocks
  abbrev other : View
  other = record { map = v.map; entry = v.entry; block = block }

  same-owned : (entry : ℕ → Entry) (n : ℕ) → owned (with_entries other entry) n ≡ owned (with_entries v entry) n
  unfolding owned chain_of
  same-owned entry zero = refl
  same-owned entry (suc n) = rw (same-owned entry n) refl

  same-sharing : (entry : ℕ → Entry) (s : ℕ) → sharing l (with_entries other entry) s ≡ sharing l (with_entries v entry) s
  unfolding sharing chain_of
  same-sharing entry s = rw (same-owned entry s) refl

  same-malformed : (entry : ℕ → Entry) (s : ℕ) → malformed l (with_entries other entry) s ≡ malformed l (with_entries v entry) s
  unfolding malformed
  same-malformed entry s = refl

  same-repeated : (entry : ℕ → Entry) (s : ℕ) → repeated l (with_entries other entry) s ≡ repeated l (with_entries v entry) s
  unfolding repeated has_name_of
  same-repeated entry s = refl

  same-walk : (entry : ℕ → Entry) (s : ℕ) → walk_of l (with_entries other entry) s ≡ walk_of l (with_entries v entry) s
  unfolding walk_of
  same-walk entry s = refl

  same-broken : (entry : ℕ → Entry) (s : ℕ) → broken l (with_entries other entry) s ≡ broken l (with_entries v entry) s
  unfolding broken
  same-broken entry s = rw (same-walk entry s) refl

  same-verdict : (entry : ℕ → Entry) (s : ℕ) → verdict l (with_entries other entry) s ≡ verdict l (with_entries v entry) s
  unfolding verdict
  same-verdict entry s = rw (same-malformed entry s, same-repeated entry s, same-broken entry s, same-walk entry s, same-sharing entry s) refl

  same_entries : (n : ℕ) → entries_after l other n ≡ entries_after l v n
  unfolding entries_after
  same_entries zero = refl
  same_entries (suc n) = rw (same_entries n, same-verdict (entries_after l v n) n) refl

  same_report : (s : ℕ) → report_of l other s ≡ report_of l v s
  same_report s = rw (same_entries s) (same-verdict (entries_after l v s) s)

  same_dropped : dropped_slots l other ≡ dropped_slots l v
  unfolding dropped_slots
  same_dropped = ap (λ (said : ℕ → ℕ). those (λ s. drops (said s)) 0 l.slots) (fun_ext same_report)

  same-wrong : wrong_system l other ≡ wrong_system l v
  unfolding wrong_system bad_system
  same-wrong = refl

  same-stray : stray_blocks l other ≡ stray_blocks l v
  unfolding stray_blocks stray
  same-stray = rw (same_entries l.slots, same-owned (entries_after l v l.slots) l.slots) refl

-- ---- images that differ in the first directory alone

module _ (k : Kind) (d : Density) (second : (layout_of k d).second ≡ true) (x y : List ℕ) (known : known_of x ≡ known_as k d) (same : SameButFirst x y) where
  abbrev l : Layout
  l = layout_of k d

  abbrev right : LayoutRight l
  right = layout_right k d

  abbrev seen : View
  seen = view_of l (bytes x)

  -- the directory in use lies past the map, and the map past the first directory
  past : (i : ℕ) → l.directory ≤ i → bytes y i ≡ bytes x i
  past i h = same.rest i (omega (arith, right.second_directory second))

  same_map : map_at (bytes y) ≡ map_at (bytes x)
  same_map = fun_ext (λ b. number_cong 2 (bytes x) (bytes y) (map_offset b) (λ i p q. same.rest i (omega arith)))

  entry-same : (s : ℕ) → entry_at (bytes y) (slot_offset l s) ≡ entry_at (bytes x) (slot_offset l s)
  entry-same s = entry_cong (bytes x) (bytes y) (slot_offset l s) (λ i p q. past i (omega arith))

  same_view : view_of l (bytes y) ≡ other l seen (block_at (bytes y))
  same_view = ap₂ (λ (m : ℕ → ℕ) (e : ℕ → Entry). record { map = m; entry = e; block = block_at (bytes y) }) same_map (fun_ext entry-same)

  -- ---- kind and check

  read_same : (j : Kind) (c : Density) (i : ℕ) → length x ≡ length_of c → InUse (layout_of j c) (bytes x) → Read (layout_of j c) i → bytes y i ≡ bytes x i
  read_same j c i h here (inl p) =
      let over = (known_is (length x) (bytes x) k d known).1.in_use.passed_over_is.1 second in
      same.rest i (omega (arith, p.0, (layout_right j c).second_directory (here.passed_over_is.0 over)))
  read_same j c i h here (inr p) = same.rest i p.0

  known_same : known_of y ≡ known_as k d
  known_same = ap (λ (n : ℕ). known_head n (bytes y)) same.size ∙ same_known (bytes x) (bytes y) (length x) same.type read_same ∙ known

  check_same : check_of y ≡ check_of x
  check_same = check_reads x y same.size same.type read_same

  -- ---- what is written is written to both

  alike : (i : ℕ) → (i ≡ 16) ⊎ (map_offset 0 ≤ i) → Alike i x y
  alike i (inl e) = (same.size, rw e same.type)
  alike i (inr h) = (same.size, same.rest i h)

  both_written : (f : List ℕ → List ℕ) → ((i : ℕ) → Alike i x y → Alike i (f x) (f y)) → SameButFirst (f x) (f y)
  both_written f h = record { size = (h 16 (alike 16 (inl refl))).0; type = (h 16 (alike 16 (inl refl))).1; rest = λ i p. (h i (alike i (inr p))).1 }

  -- ---- salvage

  mended_alike : (i : ℕ) → Alike i x y → Alike i (salvage_image l x) (salvage_image l y)
  unfolding salvage_image
  mended_alike i a =
      let dropped = dropped_slots l seen in
      let wrong = wrong_system l seen in
      rw (
        ap (dropped_slots l) same_view ∙ same_dropped l seen (block_at (bytes y)),
        ap (wrong_system l) same_view ∙ same-wrong l seen (block_at (bytes y)),
        ap (stray_blocks l) same_view ∙ same-stray l seen (block_at (bytes y)),
      )
      (set-all_alike i (set_all (erase_slots l x dropped) wrong l.reserved) (set_all (erase_slots l y dropped) wrong l.reserved) (stray_blocks l seen) 0
      (set-all_alike i (erase_slots l x dropped) (erase_slots l y dropped) wrong l.reserved (erase_slots_alike i l x y dropped a)))

  mended : SameButFirst (salvage_image l x) (salvage_image l y)
  mended = both_written (salvage_image l) mended_alike

  same_changes : map_changes l y (salvage_image l y) ≡ map_changes l x (salvage_image l x)
  unfolding map_changes
  same_changes =
      let after : map_at (bytes (salvage_image l y)) ≡ map_at (bytes (salvage_image l x)) =
      fun_ext (λ b. number_cong 2 (bytes (salvage_image l x)) (bytes (salvage_image l y)) (map_offset b) (λ i p q. mended.rest i (omega arith))) in
      ap₂ (λ (m n : ℕ → ℕ). count (λ b. not (eqb (m b) (n b))) 0 l.blocks) after same_map

  same_after : (report : List ℕ) → report_after l y report ≡ report_after l x report
  unfolding report_after
  same_after report =
      ap (λ (said : ℕ → ℕ). tab said 0 l.slots ++ drop l.slots report) (fun_ext (λ s. ap (λ (v : View). report_of l v s) same_view ∙ same_report l seen (block_at (bytes y)) s))

  salvage_unseen : (report : List ℕ) → Unseen (salvage_of x report) (salvage_of y report)
  unfolding salvage_of salvage_as
  salvage_unseen report = rw (known, known_same) (go (ltb (length report) l.slots) refl)
    where
      go : (t : Bool) → ltb (length report) l.slots ≡ t → Unseen (salvage_as l x report) (salvage_as l y report)
      go true e = rw e (record { answer = refl; output = refl; state = same })
      go false e = rw e (record { answer = ap valued same_changes; output = same_after report; state = mended })

  -- ---- the calls on an accepted image

  module _ (rules : DiskRules l x) where
    file-same : (s : ℕ) → Dec (s < l.slots) → files_in l y s ≡ files_in l x s
    file-same s (no h) = file-out l (view_of l (bytes y)) s (omega arith) ∙ sym (file-out l seen s (omega arith))
    file-same s (yes h) =
        file_at_is l (view_of l (bytes y)) s h ∙ file_kept l seen (view_of l (bytes y)) s (entry-same s) (λ u. record {
          entry = entry-same s;
          map = λ b i. ap (λ (m : ℕ → ℕ). m b) same_map;
          block = λ b i.
              tab_cong (bytes x) (bytes y) (block_offset b) 1024
              (λ j p q. same.rest j (omega (arith, right.map-low, (owned_data l right seen rules.valid s b ((h, u), i)).0)));
        })
        ∙ sym (file_at_is l seen s h)

    files-same : files_in l y ≡ files_in l x
    files-same = fun_ext (λ s. file-same s (dec_lt s l.slots))

    put_same : (s : ℕ) (name : List ℕ) (type : ℕ) (content : List ℕ) → SameButFirst (put_image l x s name type content) (put_image l y s name type content)
    unfolding put_image
    put_same s name type content =
        let ks = chosen l (map_at (bytes x)) (length content) in
        let e = new_entry l (map_at (bytes x)) name type content in
        let written : put_image l y s name type content ≡ set_entry (fill_blocks l y ks content) (slot_offset l s) e =
        ap (λ (m : ℕ → ℕ). set_entry (fill_blocks l y (chosen l m (length content)) content) (slot_offset l s) (new_entry l m name type content)) same_map in
        both_written (λ img. put_image l img s name type content) (λ i a. rw written (put_alike i l x y ks content (slot_offset l s) e a))

    remove_same : (s : ℕ) → SameButFirst (remove_image l x s) (remove_image l y s)
    unfolding remove_image
    remove_same s =
        let freed = entry_chain (map_at (bytes x)) (entry_at (bytes x) (slot_offset l s)) in
        let written : remove_image l y s ≡ erase_entry (set_all y freed 0) (slot_offset l s) =
        ap₂ (λ (m : ℕ → ℕ) (e : Entry). erase_entry (set_all y (entry_chain m e) 0) (slot_offset l s)) same_map (entry-same s) in
        both_written (λ img. remove_image l img s)
        (λ i a. rw written (erase_alike i (set_all x freed 0) (set_all y freed 0) (slot_offset l s) (set-all_alike i x y freed 0 a)))

    image_same : (c : Call) → SameButFirst (image_after l x c) (image_after l y c)
    unfolding image_after
    image_same check = same
    image_same (list s) = same
    image_same (find name type) = same
    image_same (page s offset out) = same
    image_same (put name type content) = rw files-same (go (judge_put l (files_in l x) name type content))
      where
        go : (j : Judged) → SameButFirst (after x (λ s. put_image l x s name type content) j) (after y (λ s. put_image l y s name type content) j)
        go (Err r) = same
        go (Ok s) = put_same s name type content
    image_same (remove name type) = rw files-same (go (judge_name l (files_in l x) name type))
      where
        go : (j : Judged) → SameButFirst (after x (remove_image l x) j) (after y (remove_image l y) j)
        go (Err r) = same
        go (Ok s) = remove_same s
    image_same (salvage report) = same

    step_unseen : (c : Call) → Unseen (step_image (shape_of k d) x c) (step_image (shape_of k d) y c)
    unfolding step_image
    step_unseen c = record {
      answer = ap (λ (files : Files). (step_files (shape_of k d) files c).answer) files-same;
      output = ap (λ (files : Files). (step_files (shape_of k d) files c).output) files-same;
      state = image_same c;
    }

  refused_unseen : (r : Refusal) (c : Call) → Unseen (unaccepted r x c) (unaccepted r y c)
  refused_unseen r check = record { answer = refl; output = refl; state = same }
  refused_unseen r (list s) = record { answer = refl; output = refl; state = same }
  refused_unseen r (find name type) = record { answer = refl; output = refl; state = same }
  refused_unseen r (page s offset out) = record { answer = refl; output = refl; state = same }
  refused_unseen r (put name type content) = record { answer = refl; output = refl; state = same }
  refused_unseen r (remove name type) = record { answer = refl; output = refl; state = same }
  refused_unseen r (salvage report) = salvage_unseen report

  -- No call reads the first directory, but byte 16 for the kind: images that differ in nothing else get the same answers and outputs, and differ in nothing
  -- else afterwards.
  pub first_unread : (c : Call) → Unseen (call_of x c) (call_of y c)
  unfolding call_of
  first_unread c = rw check_same (go (check_of x) refl)
    where
      go : (w : Checked) → check_of x ≡ w → Unseen (call_by w x c) (call_by w y c)
      go (Err r) e = refused_unseen r c
      go (Ok disk) e =
          let told : known_as k d ≡ known_as disk.kind disk.density = sym known ∙ rules_known disk.kind disk.density x (accepted-rules disk.kind disk.density disk.files disk.free x e) in
          let same = known_as_is told in
          rw (← same.0, ← same.1) (step_unseen (rw (← same.0, ← same.1) at (accepted-rules disk.kind disk.density disk.files disk.free x e)) c)

-- ---- nor does any call change it

module _ (k : Kind) (d : Density) (second : (layout_of k d).second ≡ true) (img : List ℕ) (known : known_of img ≡ known_as k d) (i : ℕ) (low : i < map_offset 0) where
  mended_kept : (report : List ℕ) → bytes (salvage_of img report).state i ≡ bytes img i
  unfolding salvage_of salvage_as
  mended_kept report = rw known (go (ltb (length report) (layout_of k d).slots) refl)
    where
      go : (t : Bool) → ltb (length report) (layout_of k d).slots ≡ t → bytes (salvage_as (layout_of k d) img report).state i ≡ bytes img i
      go true e = rw e refl
      go false e = rw e (salvage_first (layout_of k d) (layout_right k d) img (known_size k d img known) second i low)

  refused_kept : (r : Refusal) (c : Call) → bytes (unaccepted r img c).state i ≡ bytes img i
  refused_kept r check = refl
  refused_kept r (list s) = refl
  refused_kept r (find name type) = refl
  refused_kept r (page s offset out) = refl
  refused_kept r (put name type content) = refl
  refused_kept r (remove name type) = refl
  refused_kept r (salvage report) = mended_kept report

  pub first_kept : (c : Call) → bytes (call_of img c).state i ≡ bytes img i
  first_kept c = go (check_of img) refl
    where
      go : (w : Checked) → check_of img ≡ w → bytes (call_of img c).state i ≡ bytes img i
      go (Err r) e = unfold call_of in rw e (refused_kept r c)
      go (Ok disk) e =
          let told : known_as k d ≡ known_as disk.kind disk.density = sym known ∙ rules_known disk.kind disk.density img (accepted-rules disk.kind disk.density disk.files disk.free img e) in
          let same = known_as_is told in
          let past = (layout_right disk.kind disk.density).second_directory (rw (same.0, same.1) at second) in
          system_kept disk.kind disk.density disk.files disk.free img e c i (omega (arith, (layout_right disk.kind disk.density).map-low)) (inl low) (inl (omega (arith, past)))

-- A put or a remove that the record grants: the image that it leaves meets the disk rules, and its files are the record's.
-- A granted name is in a used slot, a granted put has an empty slot, a name that is new within its type and enough free blocks; the rest is `view` and `image`. Assumes nothing.
use Rattle.std.specs.Prelude.{◌≡◌, Bool, true, false, ℕ, ◌+◌, ◌-◌, ◌≤◌, ◌<◌, eqb, Ok}
use Rattle.std.proofs.Math.Path.{refl, sym, ap}
use Rattle.std.proofs.Common.{◌∙◌, true≢false, arith}
use mathlib.Core.List.{List}
use Rattle.std.proofs.Math.Option.{Option, none, some}
use Rattle.std.proofs.Math.Decide.{dec_lt, ℕ_discrete}
use Rattle.std.proofs.Math.ListN.{length, get_or}
use Rattle.std.proofs.Math.Seq.{length-take-le}
use borrow.Author.Tests.{eqb-false, eq-eqb, ne_eqb, lt-ltb, ltb-false, not-true}
use Rattle.laws.specs.Truth.{pick}
use Rattle.laws.specs.Lemmas.Truth.{clash}
use Rattle.laws.specs.Lemmas.Scan.{at→, nowhere→}
use Rattle.laws.specs.Lemmas.Splice.{get_or-splice_in}
use Rattle.laws.specs.Reader.{bytes}
use Rattle.laws.specs.Member.{In, Distinct}
use Rattle.laws.specs.Lemmas.Member.{distinct_take}
use Rattle.layout.specs.declared.Layout.{Layout}
use Rattle.layout.specs.Layouts.{slot_offset, block_offset}
use Rattle.layout.specs.Right.{LayoutRight}
use Rattle.blocks.specs.Numbers.{number, digits}
use Rattle.blocks.specs.Lemmas.Numbers.{length_digits, digits-over}
use Rattle.blocks.specs.Blocks.{blocks_for}
use Rattle.names.specs.Names.{area_of, name_of, capitals}
use Rattle.names.specs.NameLaws.{length-area}
use Rattle.names.proofs.NameLaws.{area-legal, name_back}
use Rattle.map.specs.Map.{Data, map_at, free_blocks, free_count}
use Rattle.map.specs.Lemmas.Free.{free_distinct, free-count}
use Rattle.map.specs.Lemmas.Linking.{first_below}
use Rattle.view.specs.Disk.{Entry, View, File, used, formed, entry_chain, content_of, file_of, files_of, Namesakes, Used, Valid}
use Rattle.view.specs.Lemmas.Formed.{parts-formed}
use Rattle.view.specs.Lemmas.Kept.{file_at_is, file-out, owned_data}
use Rattle.view.specs.Lemmas.Remove.{Removed, remove_gone, remove_others}
use Rattle.view.proofs.Lemmas.Remove.{remove_valid}
use Rattle.view.specs.Lemmas.Put.{Fresh, Stored, put_here, put_others}
use Rattle.view.proofs.Lemmas.Put.{put_valid}
use Rattle.image.specs.Image.{entry_at, identity_at, view_of, files_in, DiskRules, remove_image, chosen, new_entry, fill_blocks, put_image}
use Rattle.image.specs.Lemmas.Effect.{removed, remove_length, remove_identity, remove_low, stored, length-full, put_length, put_low}
use Rattle.image.specs.Lemmas.Entries.{identity_byte}
use Rattle.image.specs.Lemmas.Kinds.{kind_kept}
use Rattle.record.specs.Record.{named, kept_file, is_empty, replaced, slot_of, empty_slot, free, judge_name, judge_put}
use Rattle.record.proofs.Types.{named_exactly}
use Rattle.record.specs.Lemmas.Granted.{Puts, granted_name}
use Rattle.record.proofs.Lemmas.Granted.{granted_put}
use Rattle.record.specs.Lemmas.Update.{empty_used, free_is, chosen-free, chosen-inside}

-- ---- slots and their files

-- a slot with a named file is used, and a used slot with the name and the type is named
named-used : (l : Layout) (v : View) (name : List ℕ) (type t : ℕ) → t < l.slots → named l name type (files_of l v t) ≡ true → used (v.entry t) ≡ true
unfolding files_of
named-used l v name type t h e = go (used (v.entry t)) refl
  where
    go : (u : Bool) → used (v.entry t) ≡ u → used (v.entry t) ≡ true
    go true p = p
    go false p = absurd (true≢false (sym (rw (lt-ltb t l.slots h, p) at e)))

used-named : (l : Layout) (v : View) (name : List ℕ) (type t : ℕ) → Used l v t → name_of l (v.entry t).area ≡ capitals l name → (v.entry t).type ≡ type → named l name type (files_of l v t) ≡ true
unfolding file_of
used-named l v name type t u e y =
    let file : File = record { name = name_of l (v.entry t).area; type = (v.entry t).type; content = content_of v (v.entry t) } in
    (named_exactly l (files_of l v) name type t).1 (file, file_at_is l v t u.0 ∙ rw u.1 refl, sym e, sym y)

-- files that differ at one slot only
files-replaced : (l : Layout) (v w : View) (s : ℕ) (f : Option File) → s < l.slots → file_of l w (w.entry s) ≡ f
    → ((t : ℕ) → t < l.slots → (t ≡ s → ⊥) → file_of l w (w.entry t) ≡ file_of l v (v.entry t)) → (t : ℕ) → files_of l w t ≡ replaced (files_of l v) s f t
unfolding replaced
files-replaced l v w s f h a b t = go (ℕ_discrete t s) (dec_lt t l.slots)
  where
    go : Dec (t ≡ s) → Dec (t < l.slots) → files_of l w t ≡ pick (eqb t s) f (files_of l v t)
    go (yes e) d = rw (eq-eqb t s e) (ap (files_of l w) e ∙ file_at_is l w s h ∙ a)
    go (no n) (yes p) = rw (ne_eqb t s n) (file_at_is l w t p ∙ b t p n ∙ sym (file_at_is l v t p))
    go (no n) (no p) = rw (ne_eqb t s n) (file-out l w t (omega arith) ∙ sym (file-out l v t (omega arith)))

module _ (l : Layout) (right : LayoutRight l) (img : List ℕ) (rules : DiskRules l img) where
  -- ---- remove

  module _ (name : List ℕ) (type s : ℕ) (granted : judge_name l (files_in l img) name type ≡ Ok s) where
    pub remove_slot : Used l (view_of l (bytes img)) s
    unfolding slot_of
    remove_slot =
        let w = at→ (λ t. named l name type (files_in l img t)) 0 l.slots s (granted_name l (files_in l img) name type s granted) in
        (omega (arith, w.1), named-used l (view_of l (bytes img)) name type s (omega (arith, w.1)) w.2)

    pub remove_inside : (b : ℕ) → In b (entry_chain (map_at (bytes img)) (entry_at (bytes img) (slot_offset l s))) → Data l b
    remove_inside b i = owned_data l right (view_of l (bytes img)) rules.valid s b (remove_slot, i)

    remove_effect : Removed l (view_of l (bytes img)) s (view_of l (bytes (remove_image l img s)))
    remove_effect = removed l right img rules.size s remove_slot.0 remove_inside

    pub remove_rules : DiskRules l (remove_image l img s)
    remove_rules = record {
      size = remove_length l right img rules.size s remove_slot.0 remove_inside ∙ rules.size;
      kind =
          kind_kept l right (bytes (remove_image l img s)) valid_after (bytes img) rules.kind
          (λ e. remove_low l right img rules.size s remove_slot.0 remove_inside 16 (omega (arith, right.second_directory e)) (omega arith))
          (λ e t h. remove_identity l right img rules.size s remove_slot.0 remove_inside t h ∙ rules.kind.identified e t h);
      valid = valid_after;
    }
      where
        valid_after : Valid l (view_of l (bytes (remove_image l img s)))
        valid_after = remove_valid l right (view_of l (bytes img)) (view_of l (bytes (remove_image l img s))) s rules.valid remove_slot remove_effect

    pub remove_files : (t : ℕ) → files_in l (remove_image l img s) t ≡ replaced (files_in l img) s none t
    remove_files =
        let v = view_of l (bytes img) in
        let w = view_of l (bytes (remove_image l img s)) in
        files-replaced l v w s none remove_slot.0 (remove_gone l right v w s rules.valid remove_slot remove_effect)
        (remove_others l right v w s rules.valid remove_slot remove_effect)

  -- ---- put

  module _ (name : List ℕ) (type : ℕ) (content : List ℕ) (s : ℕ) (granted : judge_put l (files_in l img) name type content ≡ Ok s) where
    abbrev ks : List ℕ
    ks = chosen l (map_at (bytes img)) (length content)

    abbrev new : Entry
    new = new_entry l (map_at (bytes img)) name type content

    abbrev after : List ℕ
    after = put_image l img s name type content

    passed : Puts l (files_in l img) name type content s
    passed = granted_put l (files_in l img) name type content s granted

    pub put_slot : (s < l.slots) × (used (entry_at (bytes img) (slot_offset l s)) ≡ false)
    unfolding empty_slot
    put_slot =
        let w = at→ (λ t. is_empty (files_in l img t)) 0 l.slots s passed.slot in
        let e = empty_used l (view_of l (bytes img)) s (omega (arith, w.1)) in
        (omega (arith, w.1), not-true (used (entry_at (bytes img) (slot_offset l s))) (sym e ∙ w.2))

    pub content_some : 1 ≤ length content
    content_some = let n : length content ≡ 0 → ⊥ = eqb-false (length content) 0 passed.some_content in omega arith

    content_short : length content < 16777216
    content_short = let n : length content ≤ 16777215 = ltb-false 16777215 (length content) passed.short in omega arith

    -- there are enough free blocks
    length-chosen : length ks ≡ blocks_for (length content)
    unfolding chosen free_blocks
    length-chosen =
        let a : blocks_for (length content) ≤ free l (files_in l img) = ltb-false (free l (files_in l img)) (blocks_for (length content)) passed.room in
        let b : length (free_blocks l (map_at (bytes img))) ≡ free_count l (map_at (bytes img)) = unfold free_count in free-count (map_at (bytes img)) l.first (l.blocks - l.first) in
        length-take-le (blocks_for (length content)) (free_blocks l (map_at (bytes img))) (omega (arith, free_is l right img rules))

    chosen_distinct : Distinct ks
    unfolding chosen free_blocks
    chosen_distinct = distinct_take (blocks_for (length content)) (free_blocks l (map_at (bytes img))) (free_distinct (map_at (bytes img)) l.first (l.blocks - l.first))

    new-area : new.area ≡ area_of l name
    unfolding new_entry
    new-area = refl

    new_type : new.type ≡ type
    unfolding new_entry
    new_type = refl

    new-start : new.start < 65536
    unfolding new_entry
    new-start = first_below ks 0 l.blocks 65536 (λ b i. (chosen-inside l right img rules name type content s granted b i).1) (omega (arith, right.blocks_most)) (omega arith)

    new-size : new.size < 16777216
    unfolding new_entry
    new-size = content_short

    new_own : new.identity < 65536
    unfolding new_entry
    new_own = right.identity-word

    new-formed : formed l new ≡ true
    unfolding new_entry
    new-formed = parts-formed l new (record { area = area-legal l right name passed.name-legal; type = passed.type_legal; size = content_some; own = refl })

    -- no file has the name and the type
    new-name : (t : ℕ) → Used l (view_of l (bytes img)) t → Namesakes (entry_at (bytes img) (slot_offset l t)) new → ⊥
    new-name t u e =
        clash (used-named l (view_of l (bytes img)) name type t u (ap (name_of l) (e.0 ∙ new-area) ∙ name_back l right name passed.name-legal) (e.1 ∙ new_type))
        (nowhere→ (λ x. named l name type (files_in l img x)) 0 l.slots (unfold slot_of in passed.new-name) t (omega arith) (omega (arith, u.0)))

    put_fresh : Fresh l (view_of l (bytes img)) s new ks content
    unfolding new_entry
    put_fresh = record {
      slot = put_slot.0;
      empty = put_slot.1;
      form = new-formed;
      new = new-name;
      size = refl;
      enough = length-chosen ∙ omega (arith, content_some);
      start = refl;
      inside = chosen-inside l right img rules name type content s granted;
      free = λ b i. (chosen-free l right img rules name type content s granted b i).2;
    }

    area-length : length new.area ≡ 16
    area-length = ap length new-area ∙ length-area l right name passed.name-legal

    pub put_effect : Stored l (view_of l (bytes img)) s new ks content (view_of l (bytes after))
    unfolding put_image
    put_effect =
        stored l right img rules.size s put_slot.0 new area-length new-size new-start new_own ks content chosen_distinct (chosen-inside l right img rules name type content s granted) (omega (arith, length-chosen))

    -- the slot has the layout's identity, and every other what it had
    own_after : l.second ≡ false → (t : ℕ) → t < l.slots → identity_at l (bytes after) t ≡ l.identity
    unfolding entry_at new_entry
    own_after e t h = go (ℕ_discrete t s)
      where
        go : Dec (t ≡ s) → identity_at l (bytes after) t ≡ l.identity
        go (yes p) = rw p (ap (λ (x : Entry). x.identity) put_effect.made)
        go (no n) = ap (λ (x : Entry). x.identity) (put_effect.kept t h n) ∙ rules.kind.identified e t h

    low-after : l.second ≡ true → bytes after 16 ≡ bytes img 16
    unfolding put_image
    low-after e =
        put_low l right img rules.size s put_slot.0 new area-length new-size new-start new_own ks content chosen_distinct (chosen-inside l right img rules name type content s granted) (omega (arith, length-chosen)) 16
        (omega (arith, right.second_directory e)) (omega arith)

    pub put_rules : DiskRules l after
    put_rules = record {
      size =
          unfold put_image in put_length l right img rules.size s put_slot.0 new area-length new-size new-start new_own ks content chosen_distinct (chosen-inside l right img rules name type content s granted) (omega (arith, length-chosen))
          ∙ rules.size;
      kind = kind_kept l right (bytes after) valid_after (bytes img) rules.kind low-after own_after;
      valid = valid_after;
    }
      where
        valid_after : Valid l (view_of l (bytes after))
        valid_after = put_valid l right (view_of l (bytes img)) (view_of l (bytes after)) s new ks content rules.valid put_fresh put_effect

    -- in the first directory the slot's identity bytes are already what put writes there
    pub put_identity : l.second ≡ false → ((i : ℕ) → bytes img i < 256) → (j : ℕ) → j < 2 → bytes after (slot_offset l s + 22 + j) ≡ bytes img (slot_offset l s + 22 + j)
    unfolding put_image new_entry
    put_identity e small j h =
        let at = slot_offset l s in
        let own = number 2 (bytes img) (at + 22) in
        let below : at + 24 ≤ block_offset l.blocks = omega (arith, put_slot.0, right.directory_low, right.data_some) in
        let fits : at + 22 + length (digits 2 own) ≤ length img = omega (arith, rules.size, length_digits 2 own) in
        let long = length-full l right img rules.size s put_slot.0 new area-length new-size new-start new_own ks content chosen_distinct (chosen-inside l right img rules name type content s granted) (omega (arith, length-chosen)) in
        identity_byte new area-length (fill_blocks l img ks content) at (omega (arith, rules.size, long)) j h
        ∙ sym (ap (λ (x : List ℕ). bytes x (at + 22 + j)) (sym (digits-over 2 img (at + 22) (omega (arith, rules.size)) small))
        ∙ get_or-splice_in img (at + 22) (digits 2 own) j fits (omega (arith, length_digits 2 own))
        ∙ ap (λ (v : ℕ). get_or (digits 2 v) j 0) (rules.kind.identified e s put_slot.0))

    pub put_files : (t : ℕ) → files_in l after t ≡ replaced (files_in l img) s (some (kept_file l name type content)) t
    put_files =
        let v = view_of l (bytes img) in
        let w = view_of l (bytes after) in
        let n : name_of l new.area ≡ capitals l name = ap (name_of l) new-area ∙ name_back l right name passed.name-legal in
        files-replaced l v w s (some (kept_file l name type content)) put_slot.0
        (put_here l right v w s new ks content rules.valid put_fresh put_effect ∙ rw (n, new_type) refl)
        (put_others l right v w s new ks content rules.valid put_fresh put_effect)

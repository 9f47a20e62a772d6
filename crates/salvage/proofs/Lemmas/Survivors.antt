-- A disk mended as the run says is valid, whatever it was; a kept slot shows the file that its own chain holds, any other slot none; and a valid
-- disk keeps all its slots. The kept slots pass the check's own tests, and only blocks off their chains change in the map. Assumes nothing.
use Rattle.std.specs.Prelude.{◌≡◌, Bool, false}
use Rattle.std.proofs.Math.Path.{refl, ap}
use Rattle.std.proofs.Common.{◌∙◌, arith}
use Rattle.std.proofs.Math.Bool.{true}
use Rattle.std.proofs.Math.Option.{none, some}
use Prim.Native.Nat.{ℕ, zero, suc, ◌≤◌, ◌<◌}
use Rattle.laws.specs.Truth.{pick}
use Rattle.laws.specs.Member.{In}
use Rattle.laws.specs.Lemmas.Member.{dec_in}
use Rattle.layout.specs.declared.Layout.{Layout}
use Rattle.layout.specs.Right.{LayoutRight}
use Rattle.blocks.specs.Blocks.{links_for}
use Rattle.names.specs.Names.{name_of}
use Rattle.map.specs.Map.{Data, Chained}
use Rattle.map.specs.Lemmas.Chains.{chain_data}
use Rattle.view.specs.Disk.{View, used, entry_chain, owned, content_of, file_of, files_of, Used, Owns, Valid}
use Rattle.view.specs.Lemmas.Namesakes.{namesakes_kept}
use Rattle.view.specs.Lemmas.Kept.{Kept, kept_chained, kept_file_is, used_back, owns_back, owns_on, file_at_is}
use Rattle.view.specs.Lemmas.Counting.{owned_by, by_owned}
use Rattle.view.specs.Broken.{legal, single, linked, apart}
use Rattle.view.specs.Exactly.{Unbroken, unbroken_legal, unbroken_linked, unbroken_apart}
use Rattle.view.proofs.Exactly.{quiet_unbroken, unbroken_single, valid_quiet}
use Rattle.salvage.specs.Salvage.{verdict, drops, entries_after, report_of, survivors}
use Rattle.salvage.specs.Lemmas.Judged.{Clean, clean_kept, empty_verdict, kept_entry}
use Rattle.salvage.proofs.Lemmas.Judged.{kept_case, gone_entry, clean_after}
use Rattle.salvage.specs.Lemmas.Survivors.{Mended}

module _ (l : Layout) (right : LayoutRight l) (v : View) where
  abbrev u : View
  u = survivors l v

  -- ---- the kept slots alone break no rule of slots

  clean : (s : ℕ) → s < l.slots → Clean l u s
  clean s h = clean_after l v s l.slots h

  none_malformed : Unbroken l u right legal
  none_malformed = quiet_unbroken l u right legal (λ s p q. (clean s (omega arith)).formed)

  none_repeated : Unbroken l u right single
  none_repeated = quiet_unbroken l u right single (λ s p q. (clean s (omega arith)).single)

  none_broken : Unbroken l u right linked
  none_broken = quiet_unbroken l u right linked (λ s p q. (clean s (omega arith)).whole)

  none_sharing : Unbroken l u right apart
  none_sharing = quiet_unbroken l u right apart (λ s p q. (clean s (omega arith)).apart)

  chained : (s : ℕ) → Used l u s → Chained l v.map (links_for (u.entry s).size) (u.entry s).start
  chained = unbroken_linked l u right none_broken

  -- ---- the mended disk

  module _ (w : View) (m : Mended l v w) where
    kept_data : (s b : ℕ) → Owns l u s b → Data l b
    unfolding entry_chain
    kept_data s b o = chain_data l right v.map _ _ b (chained s o.0) o.1

    keep : (s : ℕ) → Used l u s → Kept l u w s
    keep s i = record {
      entry = m.entry s i.0;
      map = λ b j. m.chained b (kept_data s b (i, j)) (by_owned u l.slots b s i.0 i.1 j);
      block = λ b j. m.block b (kept_data s b (i, j));
    }

    was : (s : ℕ) → Used l w s → Used l u s
    was s i = used_back l u w s (m.entry s i.0) i

    was_owned : (s b : ℕ) → Owns l w s b → Owns l u s b
    was_owned s b o = owns_back l u w s b (keep s (was s o.0)) o

    owner_of : (b : ℕ) → Data l b → (w.map b ≡ 0 → ⊥) → (s : ℕ) × Owns l w s b
    owner_of b d n = go (dec_in b (owned u l.slots))
      where
        go : Dec (In b (owned u l.slots)) → (s : ℕ) × Owns l w s b
        go (no out) = absurd (n (m.freed b d out))
        go (yes i) =
            let o = owned_by u l.slots b i in
            let has : Owns l u o.0 b = ((o.1, o.2), o.3) in
            (o.0, owns_on l u w o.0 b (keep o.0 has.0) has)

    -- it is valid
    pub mended_valid : Valid l w
    mended_valid = record {
      system = m.system;
      legal = λ s i. rw (m.entry s i.0) (unbroken_legal l u right none_malformed s (was s i));
      single = λ s t i j e. unbroken_single l u right none_repeated s t (was s i) (was t j) (namesakes_kept (m.entry s i.0) (m.entry t j.0) e);
      linked = λ s i. kept_chained l u w s (keep s (was s i)) (chained s (was s i));
      apart = λ s t b o p. unbroken_apart l u right none_sharing s t b (was_owned s b o) (was_owned t b p);
      owner = owner_of;
    }

    -- a kept slot's file is what its own entry and chain say
    pub mended_kept : (s : ℕ) → s < l.slots → report_of l v s ≡ 1
        → files_of l w s ≡ some (record { name = name_of l (v.entry s).area; type = (v.entry s).type; content = content_of v (v.entry s) })
    unfolding file_of
    mended_kept s h e =
        let same : u.entry s ≡ v.entry s = kept_entry l v s (rw e refl) l.slots h in
        let there : used (v.entry s) ≡ true = (kept_case l v s e).0 in
        file_at_is l w s h ∙ kept_file_is l u w s (keep s (h, rw same there)) ∙ ap (file_of l v) same ∙ rw there refl

    -- any other slot holds none
    pub mended_gone : (s : ℕ) → s < l.slots → (report_of l v s ≡ 1 → ⊥) → files_of l w s ≡ none
    mended_gone s h n = file_at_is l w s h ∙ rw (m.entry s h) (unfold file_of in rw (gone_entry l v s n l.slots h) refl)

  -- ---- a valid disk

  module _ (valid : Valid l v) where
    valid_clean : (s : ℕ) → s < l.slots → Clean l v s
    valid_clean s h = record {
      formed = valid_quiet l v right valid legal s (omega arith) (omega arith);
      single = valid_quiet l v right valid single s (omega arith) (omega arith);
      whole = valid_quiet l v right valid linked s (omega arith) (omega arith);
      apart = valid_quiet l v right valid apart s (omega arith) (omega arith);
    }

    -- its slots are empty or kept
    valid_verdict : (s : ℕ) → s < l.slots → verdict l v s ≡ pick (used (v.entry s)) 1 0
    valid_verdict s h = go (used (v.entry s)) refl
      where
        go : (t : Bool) → used (v.entry s) ≡ t → verdict l v s ≡ pick (used (v.entry s)) 1 0
        go true i = clean_kept l v s i (valid_clean s h) ∙ rw i refl
        go false i = empty_verdict l v s i ∙ rw i refl

    valid_stays : (s : ℕ) → s < l.slots → drops (verdict l v s) ≡ false
    valid_stays s h = rw (valid_verdict s h) (go (used (v.entry s)))
      where
        go : (t : Bool) → drops (pick t 1 0) ≡ false
        go true = refl
        go false = refl

    -- none of its entries is erased
    pub valid_entries : (n : ℕ) → n ≤ l.slots → entries_after l v n ≡ v.entry
    unfolding entries_after
    valid_entries zero h = refl
    valid_entries (suc n) h = rw (valid_entries n (omega arith), valid_stays n h) refl

    pub valid_report : (s : ℕ) → s < l.slots → report_of l v s ≡ pick (used (v.entry s)) 1 0
    valid_report s h = rw (valid_entries s (omega arith)) (valid_verdict s h)

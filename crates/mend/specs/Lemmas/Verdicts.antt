-- What the code says of a slot is the run's verdict, and the marks stay those of the kept chains; the report holds what was said.
-- The slot in hand is as given, and of the lower ones the report says which are kept. Assumes nothing.
use Rattle.std.specs.Prelude.{◌≡◌, Bool, ℕ, zero, suc, ◌+◌, ◌-◌, ◌≤◌, ◌<◌, eqb, length, take, drop, get_or, set, replicate}
use Rattle.std.proofs.Math.Path.{refl, sym, ap, ap₂}
use Rattle.std.proofs.Common.{◌∙◌, arith, length-set, length-append, length-drop, ext_get_or, get_or-set_same, get_or-set_other, get_or-append-add, get_or-drop}
use Rattle.std.proofs.Math.Bool.{true, false, not}
use mathlib.Core.List.{List, ◌++◌, append-nil}
use Rattle.std.proofs.Math.Decide.{ℕ_discrete, dec_lt}
use Rattle.std.proofs.Math.Numerals.{add-one}
use Rattle.std.proofs.lemmas.List.{length-replicate}
use Rattle.std.proofs.Math.ListN.{get_or-append}
use borrow.Author.Tests.{ne_eqb}
use Rattle.laws.specs.Truth.{pick, both}
use Rattle.laws.specs.Lemmas.Truth.{both_false, false_both}
use Rattle.laws.specs.Scan.{any}
use Rattle.laws.specs.Lemmas.Scan.{any_cong, none→, →none}
use Rattle.laws.specs.Lists.{meets}
use Rattle.laws.specs.Member.{In}
use Rattle.laws.specs.Reader.{bytes, tab}
use Rattle.image.specs.Image.{view_of}
use Rattle.laws.specs.Splice.{splice}
use Rattle.laws.specs.Lemmas.Splice.{length-splice, get_or-splice_below, get_or-splice_past, get_or-splice_in}
use Rattle.laws.specs.Lemmas.Padded.{get_or_zeros}
use Rattle.laws.specs.Lemmas.Reader.{length-tab, get_or-tab}
use Rattle.layout.specs.declared.Layout.{Layout}
use Rattle.layout.specs.Right.{LayoutRight}
use Rattle.blocks.specs.Blocks.{links_for}
use Rattle.map.specs.Map.{chain, Chained, Walk, Whole, Bad, Cut, walk, is_whole, fault_of, touched, marked, Marks}
use Rattle.map.specs.Lemmas.Chains.{length-chain, chain_data, chain_short}
use Rattle.map.specs.Lemmas.Walks.{whole_is}
use Rattle.map.proofs.Lemmas.Walks.{walk_chained}
use Rattle.map.specs.Lemmas.Marks.{marks_more, touched-meets}
use Rattle.view.specs.Disk.{Entry, View, used, entry_chain, chain_of, owned}
use Rattle.view.specs.Rules.{malformed, has_name_of, repeated, walk_of, broken, sharing}
use Rattle.view.specs.Lemmas.Namesakes.{used-typed, empty_unnamed}
use Rattle.slots.specs.Lemmas.Hashes.{highest-low, highest_above}
use Rattle.salvage.specs.Salvage.{entries_after, disk_after, report_of}
use Rattle.salvage.specs.Lemmas.Judged.{verdict_by, entry_ahead, entry_settled, kept_entry}
use Rattle.salvage.proofs.Lemmas.Judged.{gone_entry, kept_case, same-owned}
use Rattle.mend.specs.Steps.{is_kept, kept_name, name_note, used_end, Reported, chain_said, Noted, Judging}

-- ---- a slot's verdict

-- Where no used slot below has the name and the type no kept one has them.
pub kept_none : (l : Layout) (v : View) (report : List ℕ) (s : ℕ) → used (v.entry s) ≡ true → repeated l v s ≡ false → any (kept_name l v report s) 0 s ≡ false
unfolding repeated kept_name
kept_none l v report s u e =
    let none = both_false (used (v.entry s)) (any (has_name_of l v s) 0 s) e u in
    →none (kept_name l v report s) 0 s (λ t p q. false_both (is_kept report t) (has_name_of l v s t) (λ k. none→ (has_name_of l v s) 0 s none t p q))

module _ (l : Layout) (v : View) (s : ℕ) where
  abbrev here : View
  here = disk_after l v s

  as_given : here.entry s ≡ v.entry s
  as_given = entry_ahead l v s s (omega arith)

  same_form : malformed l here s ≡ malformed l v s
  unfolding malformed
  same_form = rw as_given refl

  pub verdict_empty : used (v.entry s) ≡ false → report_of l v s ≡ 0
  verdict_empty u = verdict_by l here s (ap used as_given ∙ u) refl refl refl refl

  module _ (u : used (v.entry s) ≡ true) where
    is_used_is : used (here.entry s) ≡ true
    is_used_is = ap used as_given ∙ u

    pub verdict-malformed : malformed l v s ≡ true → report_of l v s ≡ 4
    verdict-malformed m = verdict_by l here s is_used_is (same_form ∙ m) refl refl refl

    module _ (report : List ℕ) (marks : List Bool) (j : Judging l v report marks s) (m : malformed l v s ≡ false) where
      -- a lower slot that is kept is as given, any other is empty
      kept_one : (t : ℕ) → t < s → Dec (report_of l v t ≡ 1) → kept_name l v report s t ≡ has_name_of l here s t
      unfolding kept_name has_name_of
      kept_one t h (yes e) = rw (j.said t h, e, as_given, kept_entry l v t (rw e refl) s h) refl
      kept_one t h (no n) =
          rw (j.said t h, ne_eqb (report_of l v t) 1 n)
          (sym (empty_unnamed (here.entry s).area (here.entry s).type (here.entry t) (used-typed (here.entry s) is_used_is) (gone_entry l v t n s h)))

      names : any (kept_name l v report s) 0 s ≡ repeated l here s
      unfolding repeated
      names =
          any_cong (kept_name l v report s) (has_name_of l here s) 0 s (λ t p q. kept_one t (omega arith) (ℕ_discrete (report_of l v t) 1))
          ∙ sym (ap (λ (x : Bool). both x (any (has_name_of l here s) 0 s)) is_used_is)

      pub verdict-repeated : {r : Bool} → r ≡ any (kept_name l v report s) 0 s → r ≡ true → report_of l v s ≡ 5
      verdict-repeated e t = verdict_by l here s is_used_is (same_form ∙ m) (sym names ∙ sym e ∙ t) refl refl

      module _ (right : LayoutRight l) {links start : ℕ} (few : links ≡ links_for (v.entry s).size) (from : start ≡ (v.entry s).start) where
        abbrev walked : Walk
        walked = walk l v.map links start

        walks : walk_of l here s ≡ walked
        unfolding walk_of
        walks = rw (as_given, few, from) refl

        breaks : broken l here s ≡ not (is_whole walked)
        unfolding broken
        breaks = ap₂ both is_used_is (ap (λ (w : Walk). not (is_whole w)) walks)

        own : chain_of here s ≡ chain v.map links start
        unfolding chain_of entry_chain
        own = rw (as_given, u, few, from) refl

        shares : walked ≡ Whole → sharing l here s ≡ touched marks (chain v.map links start)
        unfolding sharing
        shares w =
            let c = walk_chained l v.map links start w in
            ap (meets (owned here s)) own
            ∙ sym (touched-meets 1600 marks (owned here s) (chain v.map links start) (λ b i. omega (arith, (chain_data l right v.map links start b c i).1, right.blocks_most)) j.chains)

        -- the walk's fault, or whether its blocks are marked
        pub verdict-chain : {r : Bool} → r ≡ any (kept_name l v report s) 0 s → r ≡ false → report_of l v s ≡ chain_said l v.map marks false links start
        unfolding chain_said
        verdict-chain e t = by walked refl
          where
            single : repeated l here s ≡ false
            single = sym names ∙ sym e ∙ t

            by : (w : Walk) → walked ≡ w → report_of l v s ≡ chain_said l v.map marks false links start
            by Whole p = rw p (verdict_by l here s is_used_is (same_form ∙ m) single (breaks ∙ ap (λ (w : Walk). not (is_whole w)) p) (shares p))
            by Bad p = rw p (verdict_by l here s is_used_is (same_form ∙ m) single (breaks ∙ ap (λ (w : Walk). not (is_whole w)) p) refl ∙ ap fault_of (walks ∙ p))
            by Cut p = rw p (verdict_by l here s is_used_is (same_form ∙ m) single (breaks ∙ ap (λ (w : Walk). not (is_whole w)) p) refl ∙ ap fault_of (walks ∙ p))

-- ---- the marks, one slot more

module _ (l : Layout) (v : View) (s : ℕ) where
  -- the chains below are the same after the slot's turn
  below_same : owned (disk_after l v (suc s)) s ≡ owned (disk_after l v s) s
  below_same = go s refl
    where
      go : (n : ℕ) → n ≡ s → owned (disk_after l v (suc s)) s ≡ owned (disk_after l v s) s
      go zero e = rw (← e) (unfold owned in refl)
      go (suc n) e =
          same-owned l v (entries_after l v (suc s)) (entries_after l v s) n
          (λ t h. entry_settled l v t (suc s) (omega arith) ∙ sym (entry_settled l v t s (omega arith))) s (omega arith)

  pub gone_marks : (report_of l v s ≡ 1 → ⊥) → (ms : List Bool) → Marks 1600 ms (owned (disk_after l v s) s) → Marks 1600 ms (owned (disk_after l v (s + 1)) (s + 1))
  unfolding owned chain_of
  gone_marks n ms m = rw (add-one s, gone_entry l v s n (suc s) (omega arith), append-nil (owned (disk_after l v (suc s)) s), below_same) m

  module _ (kept : report_of l v s ≡ 1) where
    -- a kept slot's chain is faultless
    kept_chained : Chained l v.map (links_for (v.entry s).size) (v.entry s).start
    unfolding broken walk_of
    kept_chained =
        let clean = kept_case l v s kept in
        let given = entry_ahead l v s s (omega arith) in
        let sound : not (is_whole (walk l v.map (links_for (v.entry s).size) (v.entry s).start)) ≡ false =
        both_false (used (v.entry s)) _
        (ap (λ (x : Entry). both (used x) (not (is_whole (walk l v.map (links_for x.size) x.start)))) (sym given) ∙ clean.1.whole) clean.0 in
        walk_chained l v.map _ _ (whole_is _ (not-not (is_whole (walk l v.map (links_for (v.entry s).size) (v.entry s).start)) sound))
      where
        not-not : (t : Bool) → not t ≡ false → t ≡ true
        not-not true e = refl
        not-not false e = sym e

    module _ (right : LayoutRight l) {links verdict : ℕ} {list : List ℕ} (few : links ≡ links_for (v.entry s).size) (is : verdict ≡ 1)
        (noted : Noted list verdict (entry_chain v.map (v.entry s))) where
      long : length (entry_chain v.map (v.entry s)) ≡ links + 1
      unfolding entry_chain
      long = length-chain v.map (links_for (v.entry s).size) (v.entry s).start ∙ omega (arith, few)

      listed : take (links + 1) list ≡ entry_chain v.map (v.entry s)
      listed = rw (← long) (noted.front is)

      in_data : (b : ℕ) → In b (entry_chain v.map (v.entry s)) → b < 1600
      unfolding entry_chain
      in_data b i = omega (arith, (chain_data l right v.map _ _ b kept_chained i).1, right.blocks_most)

      short : links + 1 ≤ 1600
      short = omega (arith, few, chain_short l right v.map _ _ kept_chained, right.blocks_most)

      -- its blocks stand in the list
      pub kept_listed : (links + 1 ≤ 1600) × (links + 1 ≤ length list) × ((b : ℕ) → In b (take (links + 1) list) → b < 1600)
      kept_listed = (short, omega (arith, short, noted.size), λ b i. in_data b (rw listed at i))

      pub kept_marks : (ms : List Bool) → Marks 1600 ms (owned (disk_after l v s) s) → {after : List Bool} → after ≡ marked ms (take (links + 1) list)
          → Marks 1600 after (owned (disk_after l v (s + 1)) (s + 1))
      unfolding owned chain_of
      kept_marks ms m e =
          rw (e, listed, add-one s, kept_entry l v s (rw kept refl) (suc s) (omega arith), (kept_case l v s kept).0, below_same)
          (marks_more 1600 (entry_chain v.map (v.entry s)) ms (owned (disk_after l v s) s) in_data m)

-- what is noted of a slot tells whether a lower used slot has its name
pub noted_twice : (l : Layout) (v : View) (s x : ℕ) → x ≡ name_note l v s → eqb x 1 ≡ repeated l v s
noted_twice l v s x e = ap (λ (n : ℕ). eqb n 1) e ∙ go (repeated l v s)
  where
    go : (t : Bool) → eqb (pick t 1 0) 1 ≡ t
    go true = refl
    go false = refl

-- ---- the slots above the used ones

module _ (l : Layout) (v : View) (n : ℕ) {end : ℕ} (last : end ≡ used_end v n) where
  pub end_low : end ≤ n
  end_low = omega (arith, last, highest-low (λ s. used (v.entry s)) n)

  -- they are empty
  above : (t : ℕ) → end ≤ t → t < n → used (v.entry t) ≡ false
  above t h k = highest_above (λ s. used (v.entry s)) n t (omega (arith, last)) k

  -- said and noted to be so
  pub above_said : (t : ℕ) → end ≤ t → t < n → report_of l v t ≡ 0
  above_said t h k = verdict_empty l v t (above t h k)

  pub above_noted : (t : ℕ) → end ≤ t → t < n → name_note l v t ≡ report_of l v t
  unfolding repeated
  above_noted t h k = rw (above t h k, above_said t h k) refl

  -- and without chains
  pub above_marks : (ms : List Bool) (k : ℕ) → end + k ≤ n → Marks 1600 ms (owned (disk_after l v end) end) → Marks 1600 ms (owned (disk_after l v (end + k)) (end + k))
  above_marks ms zero h m = let z : end + 0 ≡ end = omega arith in rw z m
  above_marks ms (suc k) h m =
      let z : end + suc k ≡ end + k + 1 = omega arith in
      rw z (gone_marks l v (end + k) (λ e. omega (arith, above_said (end + k) (omega arith) (omega arith), e)) ms (above_marks ms k (omega arith) m))

-- the used slots' end is no farther than the slots'
pub few : (l : Layout) (image : List ℕ) {end : ℕ} → end ≡ used_end (view_of l (bytes image)) l.slots → end ≤ l.slots
few l image e = end_low l (view_of l (bytes image)) l.slots e

-- zeros are their notes
pub noted_above : (l : Layout) (v : View) (lent report : List ℕ) {end rest : ℕ} → end ≡ used_end v l.slots → rest ≡ l.slots - end → l.slots ≤ length lent
    → Reported (name_note l v) lent report end → Reported (name_note l v) lent (splice report end (replicate rest 0)) l.slots
noted_above l v lent report {end} {rest} last left enough r = record {
  size = length-splice report end (replicate rest 0) ∙ r.size;
  said = λ t h. go t h (dec_lt t end);
  kept = λ t h. get_or-splice_past report end (replicate rest 0) t (omega (arith, low, zeros, left)) ∙ r.kept t (omega (arith, low));
}
  where
    low : end ≤ l.slots
    low = end_low l v l.slots last

    zeros : length {A = ℕ} (replicate rest 0) ≡ rest
    zeros = length-replicate {A = ℕ} rest 0

    go : (t : ℕ) → t < l.slots → Dec (t < end) → get_or (splice report end (replicate rest 0)) t 0 ≡ name_note l v t
    go t h (yes k) = get_or-splice_below report end (replicate rest 0) t k ∙ r.said t k
    go t h (no k) =
        let z : end + (t - end) ≡ t = omega arith in
        ap (λ (x : ℕ). get_or (splice report end (replicate rest 0)) x 0) (sym z)
        ∙ get_or-splice_in report end (replicate rest 0) (t - end) (omega (arith, zeros, left, low, enough, r.size)) (omega (arith, zeros, left))
        ∙ get_or_zeros rest (t - end)
        ∙ sym (above_noted l v l.slots last t (omega arith) h ∙ above_said l v l.slots last t (omega arith) h)

-- what a walk of the slot's chain noted
pub noted_entry : (m : ℕ → ℕ) (e : Entry) {links start verdict : ℕ} {list : List ℕ} → links ≡ links_for e.size → start ≡ e.start → Noted list verdict (chain m links start)
    → Noted list verdict (entry_chain m e)
unfolding entry_chain
noted_entry m e few from n = rw (← few, ← from) n

-- ---- the report

module _ (f : ℕ → ℕ) (lent : List ℕ) where
  pub reported_none : Reported f lent lent 0
  reported_none = record { size = refl; said = λ t h. absurd (omega arith); kept = λ t h. refl }

  pub reported_turn : (report : List ℕ) (n value : ℕ) → n < length lent → value ≡ f n → Reported f lent report n → Reported f lent (set report n value) (n + 1)
  reported_turn report n value h e r = record {
    size = length-set report n value ∙ r.size;
    said = λ t k. go t k (ℕ_discrete t n);
    kept = λ t k. get_or-set_other report n t value 0 (λ z. omega arith) ∙ r.kept t (omega arith);
  }
    where
      go : (t : ℕ) → t < n + 1 → Dec (t ≡ n) → get_or (set report n value) t 0 ≡ f t
      go t k (yes z) = rw z (get_or-set_same report n value 0 (omega (arith, r.size)) ∙ e)
      go t k (no z) = get_or-set_other report n t value 0 z ∙ r.said t (omega arith)

  -- as far as what was lent is right already
  pub reported_on : (report : List ℕ) (n m : ℕ) → n ≤ m → ((t : ℕ) → n ≤ t → t < m → get_or lent t 0 ≡ f t) → Reported f lent report n → Reported f lent report m
  reported_on report n m h right r = record { size = r.size; said = λ t k. go t k (dec_lt t n); kept = λ t k. r.kept t (omega arith) }
    where
      go : (t : ℕ) → t < m → Dec (t < n) → get_or report t 0 ≡ f t
      go t k (yes z) = r.said t z
      go t k (no z) = r.kept t (omega arith) ∙ right t (omega arith) k

  -- over other bytes in as many places
  pub reported_over : (g : ℕ → ℕ) (mid report : List ℕ) (n : ℕ) → Reported g lent mid n → Reported f mid report n → Reported f lent report n
  reported_over g mid report n q r = record { size = r.size ∙ q.size; said = r.said; kept = λ t k. r.kept t k ∙ q.kept t k }

  pub reported_all : (report : List ℕ) (n : ℕ) → n ≤ length lent → Reported f lent report n → report ≡ tab f 0 n ++ drop n lent
  reported_all report n h r =
      ext_get_or 0 report (tab f 0 n ++ drop n lent) (r.size ∙ sym (length-append (tab f 0 n) (drop n lent) ∙ sizes)) (λ t k. go t (dec_lt t n))
    where
      sizes : length (tab f 0 n) + length (drop n lent) ≡ length lent
      sizes = omega (arith, length-tab f 0 n, length-drop n lent)

      go : (t : ℕ) → Dec (t < n) → get_or report t 0 ≡ get_or (tab f 0 n ++ drop n lent) t 0
      go t (yes k) =
          r.said t k
          ∙ sym (get_or-append (tab f 0 n) (drop n lent) 0 t (omega (arith, length-tab f 0 n)) ∙ get_or-tab f 0 n t k ∙ ap f (omega arith))
      go t (no k) =
          let z : n + (t - n) ≡ t = omega arith in
          r.kept t (omega arith)
          ∙ sym (ap (λ (x : ℕ). get_or (tab f 0 n ++ drop n lent) x 0) (sym z)
          ∙ ap (λ (x : ℕ). get_or (tab f 0 n ++ drop n lent) (x + (t - n)) 0) (sym (length-tab f 0 n))
          ∙ get_or-append-add (tab f 0 n) (drop n lent) (t - n) 0
          ∙ get_or-drop n lent (t - n) 0
          ∙ ap (λ (x : ℕ). get_or lent x 0) z)

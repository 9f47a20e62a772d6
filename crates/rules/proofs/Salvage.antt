-- The salvage run on any bytes (document 02, request four): what it refuses, that what it leaves is accepted, that an accepted image comes back as it was, and
-- that run again it changes nothing. By what is known of the image, then by the report's length. Assumes nothing.
use Rattle.std.specs.Prelude.{◌≡◌, Bool, not, ◌↔◌, ◌⊎◌, ℕ, ◌≤◌, ◌<◌, eqb, length, Ok, Err}
use Rattle.std.proofs.Math.Path.{refl, ap}
use Rattle.std.proofs.Common.{sym, ◌∙◌, inl, inr, arith}
use Rattle.std.proofs.Math.Bool.{true, false}
use mathlib.Core.List.{List, ◌++◌}
use Rattle.std.proofs.Math.Option.{none, some}
use Rattle.std.proofs.Math.Dec.{ltb}
use Rattle.std.proofs.Math.ListN.{drop}
use borrow.Author.Tests.{le-ltb, ltb-true, ltb-false}
use Rattle.laws.specs.Truth.{pick}
use Rattle.laws.specs.declared.Refusal.{Refusal}
use Rattle.laws.specs.Refusals.{refusal_at}
use Rattle.laws.specs.Reader.{bytes, tab}
use Rattle.laws.specs.Lemmas.Reader.{tab_cong}
use Rattle.layout.specs.declared.Kind.{Kind}
use Rattle.layout.specs.declared.Density.{Density}
use Rattle.layout.specs.declared.Layout.{Layout}
use Rattle.layout.specs.Layouts.{layout_of, image_length}
use Rattle.layout.proofs.Right.{layout_right}
use Rattle.view.specs.Disk.{used}
use Rattle.image.specs.Image.{view_of, files_in, DiskRules}
use Rattle.salvage.specs.Salvage.{report_of, salvage_image, report_after}
use Rattle.salvage.specs.Theorems.{same_changes}
use Rattle.salvage.proofs.Theorems.{salvage_rules, valid_said, valid_untouched, salvage_twice, twice_said}
use Rattle.record.specs.Record.{shape_of, salvage, valued, Outcome, is_empty, kept_report, salvaging}
use Rattle.record.specs.Lemmas.Update.{empty_used}
use Rattle.record.specs.Step.{step_image}
use Rattle.rules.specs.Check.{known_of, check_of, came, salvage_as, salvage_of, call_of, Checked, Known, accepting, known_as}
use Rattle.rules.specs.Accepted.{accepted_as, length_of_is}
use Rattle.rules.proofs.Accepts.{accepted-rules, rules-accepted, rules_known, known_is}
use Rattle.rules.specs.Salvage.{salvage_unknown, salvage_short, salvage_done}

-- ---- by what is known of the image

module _ (k : Kind) (d : Density) (img : List ℕ) (known : known_of img ≡ known_as k d) where
  abbrev l : Layout
  l = layout_of k d

  -- it is as long as the layout's images
  pub known_size : length img ≡ image_length l
  known_size = (known_is (length img) (bytes img) k d known).0 ∙ sym (length_of_is k d)

  -- what it leaves meets the disk rules of that kind and density
  mended-rules : DiskRules l (salvage_image l img)
  mended-rules = salvage_rules l (layout_right k d) img known_size (known_is (length img) (bytes img) k d known).1

  -- so the check accepts it
  pub salvage_accepted : check_of (salvage_image l img) ≡ accepted_as k d (salvage_image l img)
  salvage_accepted = rules-accepted k d (salvage_image l img) mended-rules

  -- ---- run again

  -- the second run changes nothing: it says 1 of the slots that the first one kept, and 0 of all others
  pub salvage_again : (report : List ℕ) → l.slots ≤ length report
      → salvage_of (salvage_image l img) report
      ≡ came (valued 0) (tab (λ s. pick (eqb (report_of l (view_of l (bytes img)) s) 1) 1 0) 0 l.slots ++ drop l.slots report) (salvage_image l img)
  unfolding salvage_of salvage_as report_after
  salvage_again report h =
      rw (
        rules_known k d (salvage_image l img) mended-rules,
        le-ltb (length report) l.slots h,
        salvage_twice l (layout_right k d) img known_size,
        same_changes l (salvage_image l img),
        tab_cong (λ s. pick (eqb (report_of l (view_of l (bytes img)) s) 1) 1 0) (report_of l (view_of l (bytes (salvage_image l img)))) 0 l.slots
            (λ s p q. twice_said l (layout_right k d) img known_size s (omega arith)),
      ) refl

-- ---- on an accepted image: the record's

module _ (k : Kind) (d : Density) (img : List ℕ) (rules : DiskRules (layout_of k d) img) where
  abbrev on : Layout
  on = layout_of k d

  said : (s : ℕ) → s < on.slots → report_of on (view_of on (bytes img)) s ≡ pick (is_empty (files_in on img s)) 0 1
  said s h = valid_said on (layout_right k d) img rules.valid s h ∙ rw (empty_used on (view_of on (bytes img)) s h) (flip (used ((view_of on (bytes img)).entry s)))
    where
      flip : (t : Bool) → ◌≡◌ {A = ℕ} (pick t 1 0) (pick (not t) 0 1)
      flip true = refl
      flip false = refl

  reports : (report : List ℕ) → report_after on img report ≡ kept_report on (files_in on img) report
  unfolding report_after kept_report
  reports report =
      ap (λ (x : List ℕ). x ++ drop on.slots report)
      (tab_cong (λ s. pick (is_empty (files_in on img s)) 0 1) (report_of on (view_of on (bytes img))) 0 on.slots (λ s p q. said s (omega arith)))

  run_is : (report : List ℕ) → salvage_of img report ≡ salvaging img on (files_in on img) report
  unfolding salvage_of salvage_as
  run_is report = rw (rules_known k d img rules, valid_untouched on (layout_right k d) img rules.valid, same_changes on img, reports report) refl

  -- the record's answer is the same whatever the state is, files or an image
  step_is : (report : List ℕ) → step_image (shape_of k d) img (salvage report) ≡ salvaging img on (files_in on img) report
  unfolding step_image
  step_is report = go (ltb (length report) on.slots) refl
    where
      go : (t : Bool) → ltb (length report) on.slots ≡ t → step_image (shape_of k d) img (salvage report) ≡ salvaging img on (files_in on img) report
      go true e = rw e refl
      go false e = rw e refl

-- An accepted image comes back as it was: 1 for its files, 0 for its empty slots, and no map value changed.
pub salvage_same : (k : Kind) (d : Density) (f n : ℕ) (img : List ℕ) → check_of img ≡ accepting k d f n → (report : List ℕ) → (layout_of k d).slots ≤ length report
    → salvage_of img report ≡ came (valued 0) (kept_report (layout_of k d) (files_in (layout_of k d) img) report) img
salvage_same k d f n img e report h = run_is k d img (accepted-rules k d f n img e) report ∙ rw (le-ltb (length report) (layout_of k d).slots h) refl

-- Among the calls, on any bytes, salvage comes to this run.
pub salvage_call_is : (img report : List ℕ) → call_of img (salvage report) ≡ salvage_of img report
unfolding call_of
salvage_call_is img report = go (check_of img) refl
  where
    go : (w : Checked) → check_of img ≡ w → call_of img (salvage report) ≡ salvage_of img report
    go (Err r) e = rw e refl
    go (Ok disk) e =
        let rules = accepted-rules disk.kind disk.density disk.files disk.free img e in
        rw e (step_is disk.kind disk.density img rules report ∙ sym (run_is disk.kind disk.density img rules report))

-- ---- what it refuses

-- 1 or 2 where the image isn't known, 21 where it is and the report is too short; nothing else.
pub salvage_refuses : (img report : List ℕ) (r : Refusal)
    → ((salvage_of img report).answer.refusal ≡ some r)
    ↔ ((known_of img ≡ Err r) ⊎ ((k : Kind) × (d : Density) × (known_of img ≡ known_as k d) × (length report < (layout_of k d).slots) × (r ≡ refusal_at 21 0)))
salvage_refuses img report r = (by_known (known_of img) refl, due)
  where
    same_refusal : {q : Refusal} → some q ≡ some r → q ≡ r
    same_refusal e = cc

    short : (k : Kind) (d : Density) → known_of img ≡ known_as k d → (t : Bool) → ltb (length report) (layout_of k d).slots ≡ t → (salvage_of img report).answer.refusal ≡ some r
        → (known_of img ≡ Err r) ⊎ ((k : Kind) × (d : Density) × (known_of img ≡ known_as k d) × (length report < (layout_of k d).slots) × (r ≡ refusal_at 21 0))
    short k d p true t e =
        let h = ltb-true (length report) (layout_of k d).slots t in
        inr (k, d, p, h, sym (same_refusal (sym (ap (λ (o : Outcome (List ℕ)). o.answer.refusal) (salvage_short k d img p report h)) ∙ e)))
    short k d p false t e =
        let h = ltb-false (length report) (layout_of k d).slots t in
        let z : none ≡ some r = sym (ap (λ (o : Outcome (List ℕ)). o.answer.refusal) (salvage_done k d img p report h)) ∙ e in
        absurd (let o : ◌≡◌ {A = ℕ} 0 1 = cc in omega arith)

    by_known : (x : Known) → known_of img ≡ x → (salvage_of img report).answer.refusal ≡ some r
        → (known_of img ≡ Err r) ⊎ ((k : Kind) × (d : Density) × (known_of img ≡ known_as k d) × (length report < (layout_of k d).slots) × (r ≡ refusal_at 21 0))
    by_known (Err q) p e =
        inl (p ∙ ap Err (same_refusal (sym (ap (λ (o : Outcome (List ℕ)). o.answer.refusal) (salvage_unknown img report q p)) ∙ e)))
    by_known (Ok disk) p e = short disk.kind disk.density p (ltb (length report) (layout_of disk.kind disk.density).slots) refl e

    due : ((known_of img ≡ Err r) ⊎ ((k : Kind) × (d : Density) × (known_of img ≡ known_as k d) × (length report < (layout_of k d).slots) × (r ≡ refusal_at 21 0)))
        → (salvage_of img report).answer.refusal ≡ some r
    due (inl p) = ap (λ (o : Outcome (List ℕ)). o.answer.refusal) (salvage_unknown img report r p)
    due (inr p) = ap (λ (o : Outcome (List ℕ)). o.answer.refusal) (salvage_short p.0 p.1 img p.2 report p.3) ∙ ap some (sym p.4)

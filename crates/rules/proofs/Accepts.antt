-- Demand 2: an image is accepted exactly when the disk rules hold, with its kind, its density, the number of its files and the zeros counted in
-- its map. Each part of the check is one of the rules; no two kinds have one directory and one identity, so the kind is one. Assumes nothing.
use Rattle.std.specs.Prelude.{◌≡◌, refl, Bool, true, false, not, List, ◌↔◌, ℕ, ◌<◌, eqb, length, Ok, Err}
use Rattle.std.proofs.Common.{sym, ap, ◌∙◌, true≢false, arith, eqb-true, eq-eqb}
use Rattle.std.proofs.Math.Option.{Option, none, some}
use Rattle.laws.specs.Truth.{pick}
use Rattle.laws.specs.Lemmas.Truth.{clash, false_if}
use Rattle.laws.specs.declared.Refusal.{Refusal}
use Rattle.laws.specs.Lemmas.Scan.{all→, →all, count_cong}
use Rattle.laws.specs.Reader.{bytes}
use Rattle.layout.specs.declared.Kind.{Kind}
use Rattle.layout.specs.declared.Kind.TheVariants.{S900, S1000, S3000}
use Rattle.layout.specs.declared.Density.{Density}
use Rattle.layout.specs.declared.Density.TheVariants.{Low, High}
use Rattle.layout.specs.declared.Layout.{Layout}
use Rattle.layout.specs.Layouts.{layout_of, length_of}
use Rattle.layout.proofs.Right.{layout_right}
use Rattle.map.specs.Map.{map_at, free_count}
use Rattle.view.specs.Disk.{used, files_of}
use Rattle.view.specs.Rules.{rules, Ruled}
use Rattle.view.proofs.Exactly.{passed_valid, valid_passed}
use Rattle.image.specs.Image.{identity_at, view_of, files_in, OfKind, DiskRules}
use Rattle.record.specs.Record.{is_empty, file_count}
use Rattle.record.specs.Lemmas.Update.{empty_used}
use Rattle.rules.specs.Check.{density_of, passed_over, second_kind, has_identity, kind_of, known_head, known_of, used_count, check_as, check_of, Known, accepting, known_as}
use Rattle.rules.specs.Lemmas.Steps.{known_length, known_kind_is, known_disk, head_unknown, head_known, as_passed, as_failed, known_as_is, accepting_is}
use Rattle.rules.specs.Accepted.{accepted_as, length_of_is, density_is, is_density, over_second, second_over}

-- ---- the kind

has_identified : (l : Layout) (b : ℕ → ℕ) → has_identity l b ≡ true → (s : ℕ) → s < l.slots → identity_at l b s ≡ l.identity
unfolding has_identity
has_identified l b e s h =
    eqb-true (identity_at l b s) l.identity (all→ (λ t. eqb (identity_at l b t) l.identity) 0 l.slots e s (omega arith) (omega arith))

identified_has : (l : Layout) (b : ℕ → ℕ) → ((s : ℕ) → s < l.slots → identity_at l b s ≡ l.identity) → has_identity l b ≡ true
unfolding has_identity
identified_has l b h =
    →all (λ t. eqb (identity_at l b t) l.identity) 0 l.slots (λ s p q. eq-eqb (identity_at l b s) l.identity (h s (omega arith)))

-- a first directory with the layout's identity in every slot
first_kind : (l : Layout) (b : ℕ → ℕ) → l.second ≡ false → passed_over b ≡ false → has_identity l b ≡ true → OfKind l b
first_kind l b e p h = record { in_use = second_over l b (p ∙ sym e) (λ q. absurd (clash q e)); identified = λ q. has_identified l b h }

second_kind_is : (b : ℕ → ℕ) → passed_over b ≡ true → OfKind (layout_of S3000 High) b
second_kind_is b p = record { in_use = second_over (layout_of S3000 High) b p (λ q. refl); identified = λ e. absurd (true≢false e) }

-- no image has both identities
not_900 : (d : Density) (b : ℕ → ℕ) → OfKind (layout_of S1000 d) b → has_identity (layout_of S900 d) b ≡ false
not_900 d b k =
    false_if (has_identity (layout_of S900 d) b) (λ e. omega (arith, has_identified (layout_of S900 d) b e 0 (omega arith), k.identified refl 0 (omega arith)))

pub kind_is : (d : Density) (b : ℕ → ℕ) (k : Kind) → kind_of d b ≡ some k → OfKind (layout_of k d) b
unfolding kind_of
kind_is d b k e = go d (passed_over b) (has_identity (layout_of S900 d) b) (has_identity (layout_of S1000 d) b) refl refl refl e
  where
    told : (c : Density) (j : Kind) → OfKind (layout_of j c) b → some j ≡ some k → OfKind (layout_of k c) b
    told c j o q = let z : j ≡ k = cc in rw (← z) o

    go : (c : Density) (p t u : Bool) → passed_over b ≡ p → has_identity (layout_of S900 c) b ≡ t → has_identity (layout_of S1000 c) b ≡ u
        → pick p (second_kind c) (pick t (some S900) (pick u (some S1000) none)) ≡ some k → OfKind (layout_of k c) b
    go Low true t u o p q e = absurd (let z : ◌≡◌ {A = ℕ} 0 1 = cc in omega arith)
    go High true t u o p q e = told High S3000 (second_kind_is b o) e
    go c false true u o p q e = told c S900 (first_kind (layout_of S900 c) b refl o p) e
    go c false false true o p q e = told c S1000 (first_kind (layout_of S1000 c) b refl o q) e
    go c false false false o p q e = absurd (let z : ◌≡◌ {A = ℕ} 0 1 = cc in omega arith)

pub is_kind : (d : Density) (b : ℕ → ℕ) (k : Kind) → OfKind (layout_of k d) b → kind_of d b ≡ some k
unfolding kind_of
is_kind d b S900 k = rw (over_second (layout_of S900 d) b k.in_use, identified_has (layout_of S900 d) b (k.identified refl)) refl
is_kind d b S1000 k = rw (over_second (layout_of S1000 d) b k.in_use, not_900 d b k, identified_has (layout_of S1000 d) b (k.identified refl)) refl
is_kind High b S3000 k = rw (over_second (layout_of S3000 High) b k.in_use) refl
is_kind Low b S3000 k = absurd (omega (arith, k.in_use.dense refl))

-- ---- what is known of an image

module _ (n : ℕ) (b : ℕ → ℕ) (k : Kind) (d : Density) where
  -- its length is the density's, its directory the kind's
  pub known_is : known_head n b ≡ known_as k d → (n ≡ length_of d) × OfKind (layout_of k d) b
  known_is e = go (density_of n) refl
    where
      unknown : {A : Type 0} {r : Refusal} → known_head n b ≡ Err r → A
      unknown p = let z : Err _ ≡ known_as k d = sym p ∙ e in absurd (let o : ◌≡◌ {A = ℕ} 0 1 = cc in omega arith)

      by_kind : (c : Density) → density_of n ≡ some c → (y : Option Kind) → kind_of c b ≡ y → (n ≡ length_of d) × OfKind (layout_of k d) b
      by_kind c p none q = unknown (known_kind_is b n c p q)
      by_kind c p (some j) q =
          let z : known_as j c ≡ known_as k d = sym (known_disk b n c p j q) ∙ e in
          let same = known_as_is z in
          let r : (n ≡ length_of c) × OfKind (layout_of j c) b = (density_is n c p, kind_is c b j q) in
          rw (same.0, same.1) at r

      go : (x : Option Density) → density_of n ≡ x → (n ≡ length_of d) × OfKind (layout_of k d) b
      go none p = unknown (known_length b n p)
      go (some c) p = by_kind c p (kind_of c b) refl

  pub is_known : n ≡ length_of d → OfKind (layout_of k d) b → known_head n b ≡ known_as k d
  is_known size kind = known_disk b n d (is_density n d size) k (is_kind d b k kind)

-- ---- the counts

-- the used slots are the record's files
used-files : (l : Layout) (img : List ℕ) → used_count l (view_of l (bytes img)) ≡ file_count l (files_in l img)
unfolding used_count file_count
used-files l img =
    let v = view_of l (bytes img) in
    count_cong (λ s. used (v.entry s)) (λ s. not (is_empty (files_of l v s))) 0 l.slots
    (λ s p q. sym (ap not (empty_used l v s (omega arith)) ∙ not-not (used (v.entry s))))
  where
    not-not : (t : Bool) → not (not t) ≡ t
    not-not true = refl
    not-not false = refl

-- ---- what the check accepts

-- an image that meets the rules of a kind and a density is known to be of them
pub rules_known : (k : Kind) (d : Density) (img : List ℕ) → DiskRules (layout_of k d) img → known_of img ≡ known_as k d
rules_known k d img r = is_known (length img) (bytes img) k d (r.size ∙ length_of_is k d) r.kind

pub rules-accepted : (k : Kind) (d : Density) (img : List ℕ) → DiskRules (layout_of k d) img → check_of img ≡ accepted_as k d img
rules-accepted k d img r =
    head_known (bytes img) (length img) (rules_known k d img r)
    ∙ as_passed (bytes img) d k (valid_passed (layout_of k d) (view_of (layout_of k d) (bytes img)) (layout_right k d) r.valid)
    ∙ rw (used-files (layout_of k d) img) refl

refused-accepted : {A : Type 0} {r : Refusal} {k : Kind} {d : Density} {f n : ℕ} → Err r ≡ accepting k d f n → A
refused-accepted e = absurd (let z : ◌≡◌ {A = ℕ} 0 1 = cc in omega arith)

-- an image of a kind and a density that the check accepts keeps their rules
rules_by : (k : Kind) (d : Density) (img : List ℕ) → length img ≡ length_of d → OfKind (layout_of k d) (bytes img) → (w : Ruled) → rules (layout_of k d) (view_of (layout_of k d) (bytes img)) ≡ w
    → (j : Kind) (c : Density) (f n : ℕ) → check_as k d (bytes img) ≡ accepting j c f n → DiskRules (layout_of j c) img
rules_by k d img size kind (Ok _) p j c f n e =
    let q = sym (as_passed (bytes img) d k p) ∙ e in
    let same = accepting_is q in
    let r : DiskRules (layout_of k d) img = record { size = size ∙ sym (length_of_is k d); kind = kind; valid = passed_valid (layout_of k d) (view_of (layout_of k d) (bytes img)) (layout_right k d) p } in
    rw (same.0, same.1) at r
rules_by k d img size kind (Err r) p j c f n e = refused-accepted (sym (as_failed (bytes img) d k p) ∙ e)

pub accepted-rules : (k : Kind) (d : Density) (f n : ℕ) (img : List ℕ) → check_of img ≡ accepting k d f n → DiskRules (layout_of k d) img
accepted-rules k d f n img e = go (known_of img) refl
  where
    go : (x : Known) → known_of img ≡ x → DiskRules (layout_of k d) img
    go (Err r) p = refused-accepted (sym (head_unknown (bytes img) (length img) p) ∙ e)
    go (Ok disk) p =
        let w = known_is (length img) (bytes img) disk.kind disk.density p in
        rules_by disk.kind disk.density img w.0 w.1 (rules (layout_of disk.kind disk.density) (view_of (layout_of disk.kind disk.density) (bytes img))) refl k d f n (sym (head_known (bytes img) (length img) p) ∙ e)

-- demand 2: accepted exactly when the disk rules hold
pub accepted : (k : Kind) (d : Density) (img : List ℕ) → (check_of img ≡ accepted_as k d img) ↔ DiskRules (layout_of k d) img
accepted k d img = (accepted-rules k d _ _ img, rules-accepted k d img)

-- whatever counts an accepting check gives, they are these
pub accepted_counts : (k : Kind) (d : Density) (f n : ℕ) (img : List ℕ) → check_of img ≡ accepting k d f n
    → (f ≡ file_count (layout_of k d) (files_in (layout_of k d) img)) × (n ≡ free_count (layout_of k d) (map_at (bytes img)))
accepted_counts k d f n img e =
    let w : accepted_as k d img ≡ accepting k d f n = sym (rules-accepted k d img (accepted-rules k d f n img e)) ∙ e in
    let same = accepting_is w in
    (sym same.2, sym same.3)

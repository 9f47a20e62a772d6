-- What a caller must fetch of an image: what the check reads, which lies in its first 17,408 bytes, for every answer but a page's bytes, and for those the
-- file's own blocks. Entries and chains agree where directory and map do; a content is read from its chain's blocks alone. Assumes nothing.
use Rattle.std.specs.Prelude.{◌≡◌, Bool, not, ℕ, ◌-◌, ◌≤◌, ◌<◌, length, take, Ok, Err}
use Rattle.std.proofs.Math.Path.{refl, ap}
use Rattle.std.proofs.Common.{sym, ◌∙◌, true≢false, inl, inr, arith, lt-ltb, le-ltb}
use Rattle.std.proofs.Math.Bool.{true, false}
use mathlib.Core.List.{List, [], ◌∷◌}
use Rattle.std.proofs.Math.Decide.{dec_lt}
use Rattle.laws.specs.declared.Refusal.{Refusal}
use Rattle.laws.specs.Refusals.{refusal_at, Filled, Counted, number_of}
use Rattle.laws.specs.Lemmas.Refusals.{refused-done}
use Rattle.laws.specs.Lemmas.Truth.{false_if}
use Rattle.laws.specs.Lemmas.Scan.{lowest_cong}
use Rattle.laws.specs.Reader.{bytes}
use Rattle.layout.specs.declared.Kind.{Kind}
use Rattle.layout.specs.declared.Kind.TheVariants.{S900, S1000, S3000}
use Rattle.layout.specs.declared.Density.{Density}
use Rattle.layout.specs.declared.Density.TheVariants.{Low, High}
use Rattle.layout.specs.declared.Layout.{Layout}
use Rattle.layout.specs.Layouts.{layout_of, length_of, head_length, block_offset}
use Rattle.layout.specs.Right.{LayoutRight}
use Rattle.layout.proofs.Right.{layout_right}
use Rattle.blocks.specs.Blocks.{links_for}
use Rattle.map.specs.Map.{map_at}
use Rattle.map.specs.Lemmas.Chains.{length-chain, chain_cong, chain_data, chain_short}
use Rattle.view.specs.Disk.{used, entry_chain, chain_of, files_of}
use Rattle.image.specs.Image.{view_of, files_in, PassedOver, InUse, DiskRules}
use Rattle.record.specs.Record.{Call, list, find, refused_by, Outcome, named, refuse_if, or_refuse, is_legal, slot_of, file_at, judge_name, listing, Judged}
use Rattle.record.specs.Lemmas.Step.{list_output}
use Rattle.rules.specs.Check.{check_of, lent, came, unaccepted, call_of, Checked, accepting}
use Rattle.rules.specs.Accepted.{length_of_is}
use Rattle.rules.proofs.Accepts.{accepted-rules}
use Rattle.rules.specs.Head.{Read, read_head, head_agree, same_map, same-entry}
use Rattle.rules.proofs.Head.{check_reads}
use Rattle.calls.specs.Answers.{found_of}
use Rattle.calls.specs.Lemmas.Answers.{call_refused}
use Rattle.calls.specs.Lemmas.Slots.{file_above, file_empty, file-used, file-length}
use Rattle.calls.specs.Lemmas.Done.{list_done, find_done}
use Rattle.locate.specs.Locate.{file_blocks, storing, blocks_by, blocks_of}
use Rattle.laws.specs.Scan.{Lowest}

-- y has x's length, and x's bytes wherever the check of x may look: slot 0's type in the first directory, the directory in use, the map.
pub record SameRead (x y : List ℕ) : Type 0 where
  pub size : length y ≡ length x
  pub type : bytes y 16 ≡ bytes x 16
  pub read : (k : Kind) (d : Density) (i : ℕ) → length x ≡ length_of d → InUse (layout_of k d) (bytes x) → Read (layout_of k d) i → bytes y i ≡ bytes x i

-- The first 17,408 bytes have all of these.
pub head_enough : (x y : List ℕ) → length y ≡ length x → take head_length y ≡ take head_length x → SameRead x y
head_enough x y n e = record { size = n; type = head_agree x y e 16 (omega arith); read = λ k d i size here r. head_agree x y e i (read_head k d i r) }

-- On an image that uses the first directory, which all S900 and S1000 disks are, the first 5,120 bytes do.
pub first_enough : (x y : List ℕ) → (PassedOver (bytes x) → ⊥) → length y ≡ length x → ((i : ℕ) → i < 5120 → bytes y i ≡ bytes x i) → SameRead x y
first_enough x y own n e = record { size = n; type = e 16 (omega arith); read = λ k d i size here r. e i (below k d here r) }
  where
    low : (k : Kind) (d : Density) → (layout_of k d).second ≡ false → block_offset (layout_of k d).first ≤ 5120
    low S900 Low s = omega arith
    low S900 High s = omega arith
    low S1000 Low s = omega arith
    low S1000 High s = omega arith
    low S3000 d s = absurd (true≢false s)

    first : (k : Kind) (d : Density) → InUse (layout_of k d) (bytes x) → (layout_of k d).second ≡ false
    first k d here = false_if (layout_of k d).second (λ t. own (here.passed_over_is.1 t))

    below : (k : Kind) (d : Density) {i : ℕ} → InUse (layout_of k d) (bytes x) → Read (layout_of k d) i → i < 5120
    below k d here (inl p) = omega (arith, p.1, (layout_right k d).directory_low, low k d (first k d here))
    below k d here (inr p) = omega (arith, p.1, (layout_right k d).map-low, low k d (first k d here))

-- A count, 0 where a call was refused.
abbrev pub count_in : Counted → ℕ
count_in (Ok count) = count
count_in (Err r) = 0

-- The blocks that a call for them gave.
abbrev pub given : Filled ℕ → List ℕ
given f = take (count_in f.answer) f.output

-- Refusal 21.
abbrev pub no_room : Counted
no_room = Err (refusal_at 21 0)

-- A call answers alike on both, and leaves the same output.
pub record Alike (x y : List ℕ) (c : Call) : Type 0 where
  pub answer : (call_of y c).answer ≡ (call_of x c).answer
  pub output : (call_of y c).output ≡ (call_of x c).output

module _ (x y : List ℕ) (same : SameRead x y) where
  pub check_same : check_of y ≡ check_of x
  check_same = check_reads x y same.size same.type same.read

  -- ---- accepted images

  module _ {k : Kind} {d : Density} {f n : ℕ} (yes-x : check_of x ≡ accepting k d f n) where
    abbrev l : Layout
    l = layout_of k d

    right : LayoutRight l
    right = layout_right k d

    yes_y : check_of y ≡ accepting k d f n
    yes_y = check_same ∙ yes-x

    rules_x : DiskRules l x
    rules_x = accepted-rules k d f n x yes-x

    rules_y : DiskRules l y
    rules_y = accepted-rules k d f n y yes_y

    agree : (i : ℕ) → Read l i → bytes y i ≡ bytes x i
    agree i = same.read k d i (rules_x.size ∙ length_of_is k d) rules_x.kind.in_use

    pub entry-same : (s : ℕ) → s < l.slots → (view_of l (bytes y)).entry s ≡ (view_of l (bytes x)).entry s
    entry-same = same-entry (bytes x) (bytes y) l right agree

    pub chain_same : (s : ℕ) → s < l.slots → used ((view_of l (bytes x)).entry s) ≡ true
        → entry_chain (map_at (bytes y)) ((view_of l (bytes y)).entry s) ≡ entry_chain (map_at (bytes x)) ((view_of l (bytes x)).entry s)
    unfolding entry_chain
    chain_same s h u =
        let e = (view_of l (bytes x)).entry s in
        let c = rules_x.valid.linked s (h, u) in
        rw (entry-same s h)
        (chain_cong (map_at (bytes x)) (map_at (bytes y)) (links_for e.size) e.start
        (λ b i. same_map (bytes x) (bytes y) l right agree b (chain_data l right (map_at (bytes x)) _ _ b c i).1))

    blocks_by_is : (s : ℕ) → Dec (s < l.slots) → (u : Bool) → used ((view_of l (bytes x)).entry s) ≡ u → file_blocks l y s ≡ file_blocks l x s
    unfolding file_blocks chain_of
    blocks_by_is s (no h) u e = rw (le-ltb s l.slots (omega arith)) refl
    blocks_by_is s (yes h) false e = rw (lt-ltb s l.slots h, ap used (entry-same s h) ∙ e, e) refl
    blocks_by_is s (yes h) true e = rw (lt-ltb s l.slots h, ap used (entry-same s h) ∙ e, e) (chain_same s h e)

    -- a slot's name, type and length
    listing_by : (s : ℕ) → Dec (s < l.slots) → (u : Bool) → used ((view_of l (bytes x)).entry s) ≡ u
        → (listing y (file_at l (files_in l y) s)).answer ≡ (listing x (file_at l (files_in l x) s)).answer
    listing_by s (no h) u e = rw (file_above l y s (omega arith), file_above l x s (omega arith)) refl
    listing_by s (yes h) false e = rw (file_empty l y s h (ap used (entry-same s h) ∙ e), file_empty l x s h e) refl
    listing_by s (yes h) true e =
        let e-y = ap used (entry-same s h) ∙ e in
        rw (file-used l y s h e-y, file-used l x s h e, file-length l y s right rules_y h e-y, file-length l x s right rules_x h e, entry-same s h) refl

    named_by : (name : List ℕ) (type s : ℕ) → s < l.slots → (u : Bool) → used ((view_of l (bytes x)).entry s) ≡ u → named l name type (files_in l y s) ≡ named l name type (files_in l x s)
    unfolding files_of
    named_by name type s h false e = rw (lt-ltb s l.slots h, ap used (entry-same s h) ∙ e, e) refl
    named_by name type s h true e = rw (lt-ltb s l.slots h, ap used (entry-same s h) ∙ e, e, entry-same s h) refl

    judge_same : (name : List ℕ) (type : ℕ) → judge_name l (files_in l y) name type ≡ judge_name l (files_in l x) name type
    unfolding judge_name slot_of
    judge_same name type =
        ap (λ (w : Lowest). refuse_if (not (is_legal l name type)) 11 (or_refuse 10 w (λ s. Ok s)))
        (lowest_cong (λ s. named l name type (files_in l y s)) (λ s. named l name type (files_in l x s)) 0 l.slots
        (λ s p q. named_by name type s (omega arith) (used ((view_of l (bytes x)).entry s)) refl))

-- ---- the theorems: y has what the check of x reads

module _ (x y : List ℕ) (same : SameRead x y) where
  -- c being a call that a refused image answers with the check's refusal
  pub refused_alike : {r : Refusal} → check_of x ≡ Err r → (c : Call) → ((z : List ℕ) (q : Refusal) → unaccepted q z c ≡ came (refused_by q) (lent c) z) → Alike x y c
  refused_alike e c plain =
      let a = sym (plain x _) ∙ call_refused x c refl e in
      let b = sym (plain y _) ∙ call_refused y c refl (check_same x y same ∙ e) in
      record {
        answer = ap (λ (o : Outcome (List ℕ)). o.answer) (sym b) ∙ ap (λ (o : Outcome (List ℕ)). o.answer) a;
        output = ap (λ (o : Outcome (List ℕ)). o.output) (sym b) ∙ ap (λ (o : Outcome (List ℕ)). o.output) a;
      }

  -- A list answers from that alone.
  pub list_enough : (s : ℕ) → Alike x y (list s)
  list_enough s = go (check_of x) refl
    where
      go : (c : Checked) → check_of x ≡ c → Alike x y (list s)
      go (Err r) e = refused_alike e (list s) (λ z q. refl)
      go (Ok disk) e =
          let l = layout_of disk.kind disk.density in
          let a = list_done x refl e refl s in
          let b = list_done y refl (check_same x y same ∙ e) refl s in
          record {
            answer = ap (λ (o : Outcome (List ℕ)). o.answer) (sym b) ∙ listing_by x y same e s (dec_lt s l.slots) (used ((view_of l (bytes x)).entry s)) refl ∙ ap (λ (o : Outcome (List ℕ)). o.answer) a;
            output = ap (λ (o : Outcome (List ℕ)). o.output) (sym b) ∙ list_output y (file_at l (files_in l y) s) ∙ sym (list_output x (file_at l (files_in l x) s)) ∙ ap (λ (o : Outcome (List ℕ)). o.output) a;
          }

  -- So does a find.
  pub find_enough : (name : List ℕ) (type : ℕ) → Alike x y (find name type)
  find_enough name type = go (check_of x) refl
    where
      go : (c : Checked) → check_of x ≡ c → Alike x y (find name type)
      go (Err r) e = refused_alike e (find name type) (λ z q. refl)
      go (Ok disk) e =
          let a = find_done x refl e refl name type refl in
          let b = find_done y refl (check_same x y same ∙ e) refl name type refl in
          record {
            answer = ap (λ (o : Outcome (List ℕ)). o.answer) (sym b) ∙ ap (λ (j : Judged). found_of j) (judge_same x y same e name type) ∙ ap (λ (o : Outcome (List ℕ)). o.answer) a;
            output = ap (λ (o : Outcome (List ℕ)). o.output) (sym b) ∙ ap (λ (o : Outcome (List ℕ)). o.output) a;
          }

  -- So does a call for a file's blocks.
  pub blocks_enough : (s : ℕ) (out : List ℕ) → blocks_of y s out ≡ blocks_of x s out
  unfolding blocks_of
  blocks_enough s out = rw (check_same x y same) (go (check_of x) refl)
    where
      go : (c : Checked) → check_of x ≡ c → blocks_by c y s out ≡ blocks_by c x s out
      go (Err r) e = refl
      go (Ok disk) e =
          let l = layout_of disk.kind disk.density in
          ap (λ (bs : List ℕ). storing bs out) (blocks_by_is x y same e s (dec_lt s l.slots) (used ((view_of l (bytes x)).entry s)) refl)

-- ---- how much room a file's blocks need

blocks_few : (k : Kind) (d : Density) (f n : ℕ) (img : List ℕ) → check_of img ≡ accepting k d f n → (s : ℕ) → Dec (s < (layout_of k d).slots)
    → (u : Bool) → used ((view_of (layout_of k d) (bytes img)).entry s) ≡ u → length (file_blocks (layout_of k d) img s) ≤ (layout_of k d).blocks - (layout_of k d).first
unfolding file_blocks chain_of entry_chain
blocks_few k d f n img e s (no h) u t = rw (le-ltb s (layout_of k d).slots (omega arith)) (omega arith)
blocks_few k d f n img e s (yes h) false t = rw (lt-ltb s (layout_of k d).slots h, t) (omega arith)
blocks_few k d f n img e s (yes h) true t =
    let l = layout_of k d in
    let m = map_at (bytes img) in
    let w = (view_of l (bytes img)).entry s in
    let c = (accepted-rules k d f n img e).valid.linked s (h, t) in
    rw (lt-ltb s l.slots h, t, length-chain m (links_for w.size) w.start)
    (omega (arith, chain_short l (layout_right k d) m (links_for w.size) w.start c))

-- A file has at most as many blocks as the data area.
pub blocks_most : (k : Kind) (d : Density) (f n : ℕ) (img : List ℕ) → check_of img ≡ accepting k d f n → (s : ℕ)
    → length (file_blocks (layout_of k d) img s) ≤ (layout_of k d).blocks - (layout_of k d).first
blocks_most k d f n img e s = blocks_few k d f n img e s (dec_lt s (layout_of k d).slots) (used ((view_of (layout_of k d) (bytes img)).entry s)) refl

stored : (blocks out : List ℕ) → length blocks ≤ length out → (storing blocks out).answer ≡ no_room → ⊥
stored [] out h e = let z : refusal_at 10 0 ≡ refusal_at 21 0 = cc in let n : ◌≡◌ {A = ℕ} 10 21 = ap (λ (r : Refusal). (number_of r)) z in absurd (omega arith)
stored (b ∷ bs) out h e = refused-done (sym (rw (le-ltb (length out) (length (b ∷ bs)) h) at e))

-- So an output with that much room is never refused by 21.
pub room_enough : (k : Kind) (d : Density) (f n : ℕ) (img : List ℕ) → check_of img ≡ accepting k d f n → (s : ℕ) (out : List ℕ)
    → (layout_of k d).blocks - (layout_of k d).first ≤ length out → (blocks_of img s out).answer ≡ no_room → ⊥
unfolding blocks_of
room_enough k d f n img e s out h r = stored (file_blocks (layout_of k d) img s) out (omega (arith, blocks_most k d f n img e s)) (rw e at r)

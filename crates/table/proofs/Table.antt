-- Document 01's worked disks and words, P1 to P13, with the end mark of document 02's request one; that request's old mark, request two's names in small
-- letters, request five's S3000 disks, and request six's samples and programs of one name; one table, each row about real bytes.
-- The checker computes each row on the bytes that are set; one lemma takes it to the list. Assumes nothing.
use Rattle.std.specs.Prelude.{◌≡◌, ℕ, T, replicate, Ok}
use Rattle.std.proofs.Math.Path.{refl, ap, ap₂, fun_ext}
use Rattle.std.proofs.Common.{◌∙◌, subst}
use mathlib.Core.List.{List, [], ◌∷◌, map}
use Rattle.laws.specs.Reader.{bytes}
use Rattle.layout.specs.declared.Kind.{Kind}
use Rattle.layout.specs.declared.Kind.TheVariants.{S900, S1000, S3000}
use Rattle.layout.specs.declared.Density.{Density}
use Rattle.layout.specs.declared.Density.TheVariants.{Low, High}
use Rattle.layout.specs.Layouts.{layout_of}
use Rattle.layout.proofs.Right.{layout_right}
use Rattle.blocks.specs.Numbers.{number}
use Rattle.map.specs.Map.{map_at}
use Rattle.map.specs.Lemmas.Chains.{Linked}
use Rattle.view.specs.Disk.{files_of}
use Rattle.image.specs.Image.{entry_at, view_of, files_in, DiskRules, chosen, put_image}
use Rattle.record.specs.Record.{Shape, shape_of, Files, Call, put, Answer, Outcome, judge_put, step_files}
use Rattle.record.proofs.Lemmas.Update.{put_effect}
use Rattle.record.specs.Step.{step_image}
use Rattle.rules.specs.Check.{check_head, check_of, call_of, accepting}
use Rattle.rules.proofs.Accepts.{accepted-rules}
use Rattle.rules.proofs.Demand.{call_is, rules-after, files-after}
use Rattle.words.specs.Words.{packed900}
use Rattle.table.specs.Sparse.{Sparse, zeros, inside, list_of, reads, list_reads, sparse_check}
use Rattle.table.specs.Table.{MapHolds, seen_of, Row, checks, packs, leaves, answers, serves, Holds, All, low, name, six_calls, six_checks, rows}

-- ---- the rows hold

-- what is seen of calls on the record
abbrev fed : {X : Type 0} → (Answer → List ℕ → X) → Shape → Files → List Call → List X
fed see shape held [] = []
fed see shape held (c ∷ cs) = see (step_files shape held c).answer (step_files shape held c).output ∷ fed see shape (step_files shape held c).state cs

-- the files on the bytes that are set
abbrev files_set : Kind → Density → Sparse → Files
files_set k d s = files_of (layout_of k d) (view_of (layout_of k d) (reads s))

module _ (k : Kind) (d : Density) {X : Type 0} (see : Answer → List ℕ → X) where
  -- on an image it is the same
  seen-fed : (cs : List Call) (img : List ℕ) (held : Files) → DiskRules (layout_of k d) img → files_in (layout_of k d) img ≡ held → seen_of see img cs ≡ fed see (shape_of k d) held cs
  unfolding step_image
  seen-fed [] img held r e = refl
  seen-fed (c ∷ cs) img held r e =
      ap₂ (λ (x : X) (rest : List X). x ∷ rest)
      (ap (λ (o : Outcome (List ℕ)). see o.answer o.output) (call_is k d img c r)
      ∙ ap (λ (x : Files). see (step_files (shape_of k d) x c).answer (step_files (shape_of k d) x c).output) e)
      (seen-fed cs (call_of img c).state _ (rules-after k d img c r)
      (fun_ext (files-after k d img c r) ∙ ap (λ (x : Files). (step_files (shape_of k d) x c).state) e))

  seen-set : (n : ℕ) (s : Sparse) (f free : ℕ) (cs : List Call) → T (inside n s) → check_head n (reads s) ≡ accepting k d f free → seen_of see (list_of n s) cs ≡ fed see (shape_of k d) (files_set k d s) cs
  seen-set n s f free cs t e =
      seen-fed cs (list_of n s) (files_set k d s) (accepted-rules k d f free (list_of n s) (sparse_check n s t ∙ e))
      (ap (λ (b : ℕ → ℕ). files_of (layout_of k d) (view_of (layout_of k d) b)) (fun_ext (list_reads n s t)))

-- what the checker computes of a row; the map after a call follows from what put does
abbrev Computed : Row → Type 0
Computed (checks n s answer) = T (inside n s) × (check_head n (reads s) ≡ answer)
Computed (packs words packed) = packed900 words ≡ packed
Computed (leaves n s call values) = Holds (leaves n s call values)
Computed (answers n s calls told) =
    (k : Kind) × (d : Density) × (f : ℕ) × (free : ℕ) × T (inside n s) × (check_head n (reads s) ≡ accepting k d f free) × (fed (λ answer output. answer) (shape_of k d) (files_set k d s) calls ≡ told)
Computed (serves n s served) =
    (k : Kind)
    × (d : Density)
    × (f : ℕ)
    × (free : ℕ)
    × T (inside n s)
    × (check_head n (reads s) ≡ accepting k d f free)
    × (fed (λ answer output. (answer, output)) (shape_of k d) (files_set k d s) (map (λ t. t.0) served) ≡ map (λ t. t.1) served)

abbrev AllComputed : List Row → Type 0
AllComputed [] = Unit {0}
AllComputed (r ∷ rs) = Computed r × AllComputed rs

by_computation : (rs : List Row) → AllComputed rs → All rs
by_computation [] c = tt
by_computation (checks n s answer ∷ rs) c = (sparse_check n s c.0.0 ∙ c.0.1, by_computation rs c.1)
by_computation (packs words packed ∷ rs) c = (c.0, by_computation rs c.1)
by_computation (leaves n s call values ∷ rs) c = (c.0, by_computation rs c.1)
by_computation (answers n s calls told ∷ rs) ((k, d, f, free, t, e, a), c) = (seen-set k d (λ answer output. answer) n s f free calls t e ∙ a, by_computation rs c)
by_computation (serves n s served ∷ rs) ((k, d, f, free, t, e, a), c) =
    (seen-set k d (λ answer output. (answer, output)) n s f free (map (λ t. t.0) served) t e ∙ a, by_computation rs c)

-- P13, the disk being P1's: the put is granted slot 0 and takes the blocks 4 and 5
unfoldable p1 : List ℕ
p1 = list_of 819200 zeros

p1-reads : bytes p1 ≡ reads zeros
unfolding p1
p1-reads = fun_ext (list_reads 819200 zeros tt)

p1-accepted : check_of p1 ≡ accepting S900 Low 0 796
unfolding p1 check_head
p1-accepted = sparse_check 819200 zeros tt ∙ refl

abbrev content : List ℕ
content = replicate 1025 7

granted : judge_put low (files_in low p1) name 65 content ≡ Ok 0
unfolding judge_put files_of entry_at
granted = ap (λ (b : ℕ → ℕ). judge_put low (files_of low (view_of low b)) name 65 content) p1-reads

taken : chosen low (map_at (bytes p1)) 1025 ≡ 4 ∷ 5 ∷ []
unfolding chosen number
taken = ap (λ (b : ℕ → ℕ). chosen low (map_at b) 1025) p1-reads

after_put : (call_of p1 (put name 65 content)).state ≡ put_image low p1 0 name 65 content
unfolding call_of
after_put = rw (p1-accepted, granted) refl

p13 : MapHolds (call_of p1 (put name 65 content)).state ((4, 5) ∷ (5, 32768) ∷ [])
unfolding Linked
p13 =
    let after = put_image low p1 0 name 65 content in
    let e = (put_effect low (layout_right S900 Low) p1 (accepted-rules S900 Low 0 796 p1 p1-accepted) name 65 content 0 granted).linked in
    let q = subst (λ (l : List ℕ). Linked (map_at (bytes after)) l 32768) taken e in
    rw after_put (q.0, (q.1.0, tt))

calls_six : AllComputed six_calls
unfolding check_head step_files files_of entry_at
calls_six = ((S900, Low, 0, 796, tt, refl, refl), ((S1000, Low, 0, 796, tt, refl, refl), ((S3000, High, 0, 1583, tt, refl, refl), tt)))

checks_six : AllComputed six_checks
unfolding check_head entry_at
checks_six = ((tt, refl), ((tt, refl), ((tt, refl), ((tt, refl), calls_six))))

pub table : All rows
unfolding p1 check_head packed900 step_files files_of entry_at
table =
    by_computation rows (
      (tt, refl),
      (
        (tt, refl),
        (
          (tt, refl),
          (
            (tt, refl),
            (
              (tt, refl),
              (
                (tt, refl),
                (
                  (tt, refl),
                  (
                    (tt, refl),
                    (
                      (tt, refl),
                      (
                        (tt, refl),
                        (
                          refl,
                          (
                            refl,
                            (
                              p13,
                              (
                                (tt, refl),
                                (
                                  (tt, refl),
                                  (
                                    (tt, refl),
                                    (
                                      (S1000, Low, 0, 796, tt, refl, refl),
                                      (
                                        (S900, Low, 0, 796, tt, refl, refl),
                                        ((tt, refl), ((tt, refl), ((tt, refl), ((tt, refl), ((tt, refl), ((tt, refl), ((tt, refl), ((tt, refl), ((tt, refl), ((tt, refl), ((tt, refl), ((S3000, High, 0, 1583, tt, refl, refl), checks_six)))))))))))),
                                      ),
                                    ),
                                  ),
                                ),
                              ),
                            ),
                          ),
                        ),
                      ),
                    ),
                  ),
                ),
              ),
            ),
          ),
        ),
      ),
    )

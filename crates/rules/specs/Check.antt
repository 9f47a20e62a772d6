-- The check over a length and a reader of bytes: refusals 1 to 9 in document 01's order ("The numbers given back"), and the meaning of
-- every public call on any bytes: the check first, but for salvage. Assumes nothing.
use Rattle.std.specs.Prelude.{◌≡◌, Bool, List, [], ℕ, min, ltb, eqb, length, Ok, Err, Result}
use Rattle.std.proofs.Math.Option.{Option, none, some}
use Rattle.laws.specs.Truth.{pick}
use Rattle.laws.specs.Scan.{all, count}
use Rattle.laws.specs.Reader.{bytes}
use Rattle.layout.specs.declared.Kind.{Kind}
use Rattle.layout.specs.declared.Kind.TheVariants.{S900, S1000, S3000}
use Rattle.layout.specs.declared.Density.{Density}
use Rattle.layout.specs.declared.Density.TheVariants.{Low, High}
use Rattle.layout.specs.declared.Layout.{Layout}
use Rattle.layout.specs.Layouts.{layout_of, length_of, head_length}
use Rattle.map.specs.Map.{map_at, free_count}
use Rattle.view.specs.Disk.{View, used}
use Rattle.laws.specs.declared.Refusal.{Refusal}
use Rattle.laws.specs.Refusals.{refusal_at}
use Rattle.view.specs.Rules.{rules, Ruled}
use Rattle.image.specs.Image.{entry_at, identity_at, view_of}
use Rattle.salvage.specs.Salvage.{salvage_image, map_changes, report_after}
use Rattle.record.specs.Record.{shape_of, Call, check, list, find, page, put, remove, salvage, Answer, accepted, refused, refused_by, valued, Outcome}
use Rattle.record.specs.Step.{step_image}
use Rattle.rules.specs.declared.Accepted.{Accepted}
use Rattle.rules.specs.declared.Format.{Format}

-- What the check tells of an image: kind, density and counts of one that it accepts, or its refusal.
abbrev pub Checked : Type 0
Checked = Result Accepted Refusal

abbrev pub accepting : Kind → Density → ℕ → ℕ → Checked
accepting k d files free = Ok (record { kind = k; density = d; files = files; free = free })

-- What is known of an image before that: its kind and density, or a refusal, 1 or 2.
abbrev pub Known : Type 0
Known = Result Format Refusal

abbrev pub known_as : Kind → Density → Known
known_as k d = Ok (record { kind = k; density = d })

-- what comes next of a value, or the refusal where there is none
abbrev pub or_unknown : {A : Type 0} → Option A → ℕ → (A → Known) → Known
or_unknown none number next = Err (refusal_at number 0)
or_unknown (some x) number next = next x

-- 1: the image's length is one of the two.
unfoldable pub density_of : ℕ → Option Density
density_of length = pick (eqb length (length_of Low)) (some Low) (pick (eqb length (length_of High)) (some High) none)

-- 2: slot 0 of the first directory has type byte 255, so that directory is passed over (document 02, request five).
unfoldable pub passed_over : (ℕ → ℕ) → Bool
passed_over b = eqb (b 16) 255

-- The kind of such an image: high density alone has one.
abbrev pub second_kind : Density → Option Kind
second_kind Low = none
second_kind High = some S3000

-- 2: every slot, empty ones too, has the layout's identity.
unfoldable pub has_identity : Layout → (ℕ → ℕ) → Bool
unfolding all
has_identity l b = all (λ s. eqb (identity_at l b s) l.identity) 0 l.slots

-- Slot 0's type is asked before the identities.
unfoldable pub kind_of : Density → (ℕ → ℕ) → Option Kind
unfolding passed_over has_identity
kind_of d b =
    pick (passed_over b) (second_kind d)
    (pick (has_identity (layout_of S900 d) b) (some S900)
    (pick (has_identity (layout_of S1000 d) b) (some S1000)
    none))

-- 2: the kind that the directory in use tells.
unfoldable pub known_kind : Density → (ℕ → ℕ) → Known
unfolding kind_of
known_kind d b = or_unknown (kind_of d b) 2 (λ k. known_as k d)

-- 1, then 2: what is known of an image by its length and its directory. The check and the salvage run both begin so.
unfoldable pub known_head : ℕ → (ℕ → ℕ) → Known
unfolding density_of known_kind
known_head length b = or_unknown (density_of length) 1 (λ d. known_kind d b)

abbrev pub known_of : List ℕ → Known
known_of img = known_head (length img) (bytes img)

-- the number of used slots
unfoldable pub used_count : Layout → View → ℕ
unfolding count used
used_count l v = count (λ s. used (v.entry s)) 0 l.slots

-- 3 to 9: the disk rules of that kind and density.
abbrev pub or_fault : Ruled → Checked → Checked
or_fault (Ok _) next = next
or_fault (Err r) next = Err r

unfoldable pub check_as : Kind → Density → (ℕ → ℕ) → Checked
unfolding rules used_count free_count entry_at
check_as k d b =
    let l = layout_of k d in
    or_fault (rules l (view_of l b)) (accepting k d (used_count l (view_of l b)) (free_count l (map_at b)))

-- 1 and 2, then those of the kind and density.
abbrev pub check_known : Known → (ℕ → ℕ) → Checked
check_known (Err r) b = Err r
check_known (Ok disk) b = check_as disk.kind disk.density b

unfoldable pub check_head : ℕ → (ℕ → ℕ) → Checked
unfolding known_head check_as
check_head length b = check_known (known_head length b) b

-- The check of an image.
abbrev pub check_of : List ℕ → Checked
check_of img = check_head (length img) (bytes img)

-- The same where only an image's head is at hand: its first 17,408 bytes suffice (`start_check`). A head that is shorter than it could be is
-- refused as a wrong length is.
unfoldable pub known_start : List ℕ → ℕ → Known
unfolding known_head
known_start head size = pick (ltb (length head) (min size head_length)) (Err (refusal_at 1 0)) (known_head size (bytes head))

unfoldable pub check_start : List ℕ → ℕ → Checked
unfolding known_start check_as
check_start head size = check_known (known_start head size) (bytes head)

-- The check's number, place and values.
abbrev pub answer_of : Checked → Answer
answer_of (Ok disk) = accepted disk.kind disk.density disk.files disk.free
answer_of (Err r) = refused_by r

-- ---- every public call

-- The output that a call lends.
abbrev pub lent : Call → List ℕ
lent check = []
lent (list s) = []
lent (find name type) = []
lent (page s offset out) = out
lent (put name type content) = []
lent (remove name type) = []
lent (salvage report) = report

-- What a call comes to: its answer, the lent output afterwards, the image afterwards.
abbrev pub came : Answer → List ℕ → List ℕ → Outcome (List ℕ)
came answer output img = record { answer = answer; output = output; state = img }

-- The salvage run on an image of a known layout: 21, or the count of map values that are others, the report, and the image as it leaves it.
unfoldable pub salvage_as : Layout → List ℕ → List ℕ → Outcome (List ℕ)
unfolding salvage_image map_changes report_after
salvage_as l img report =
    pick (ltb (length report) l.slots) (came (refused 21 0) report img)
    (came (valued (map_changes l img (salvage_image l img))) (report_after l img report) (salvage_image l img))

abbrev pub salvage_known : Known → List ℕ → List ℕ → Outcome (List ℕ)
salvage_known (Err r) img report = came (refused_by r) report img
salvage_known (Ok disk) img report = salvage_as (layout_of disk.kind disk.density) img report

-- The salvage run on any bytes (document 02, request four): 1, 2, then 21, else it is done.
unfoldable pub salvage_of : List ℕ → List ℕ → Outcome (List ℕ)
unfolding known_head salvage_as
salvage_of img report = salvage_known (known_of img) img report

-- A call on an image that the check refuses: its refusal, and image and output stay; but salvage mends the image.
abbrev pub unaccepted : Refusal → List ℕ → Call → Outcome (List ℕ)
unaccepted r img check = came (refused_by r) [] img
unaccepted r img (list s) = came (refused_by r) [] img
unaccepted r img (find name type) = came (refused_by r) [] img
unaccepted r img (page s offset out) = came (refused_by r) out img
unaccepted r img (put name type content) = came (refused_by r) [] img
unaccepted r img (remove name type) = came (refused_by r) [] img
unaccepted r img (salvage report) = salvage_of img report

abbrev pub call_by : Checked → List ℕ → Call → Outcome (List ℕ)
call_by (Err r) img c = unaccepted r img c
call_by (Ok disk) img c = step_image (shape_of disk.kind disk.density) img c

-- A call on any bytes: on an accepted image the answer and the output are the record's. What salvage comes to is `salvage_of` there too (`salvage_call_is`).
unfoldable pub call_of : List ℕ → Call → Outcome (List ℕ)
unfolding check_head step_image salvage_of
call_of img c = call_by (check_of img) img c

-- A call was made: answer, output and image afterwards are those of `call_of`.
abbrev pub Made : List ℕ → Call → Answer → List ℕ → List ℕ → Type 0
Made img c answer output after = came answer output after ≡ call_of img c

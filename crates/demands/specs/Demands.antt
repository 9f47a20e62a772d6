-- What the client is owed: each sentence of the mission, in its order, then each request, as a theorem that is stated in full and proved by a citation.
-- To believe it, read these statements and the definitions they name:
--   DiskRules (image/specs/Image), Valid (view/specs/Disk), Owed (rules/specs/Exactly), Breaks and Due (view/specs/Broken): when an image is accepted or refused;
--   Call, Answer and step_files (record/specs/Record): the plain record, and a call on it; call_of and Made (rules/specs/Check): a call on any bytes;
--   Kept (rules/specs/Demand), Pages to Joins (record/specs/Download): demand 3; TouchedBy (rules/specs/Outside): what a call may change;
--   unpack_of and pack_of (samples/specs/Samples), SampleRules (samples/specs/Rules), program_of and ProgramRules (program/specs/Program): the files;
--   told_of and turn_in (skilletjay/specs/Told): C's results; listing_of (listing/specs/Listing): the listing program's text;
--   last_block (rules/specs/Mark), Other and Reaches (map/specs/Values): request one;
--   akaii_of, ascii_of and capital (names/specs/Akaii), capitals (names/specs/Names), kept_file (record/specs/Record), in_capitals (record/specs/Spelling): request two;
--   cost_of, blocks_holding and holds (pages/specs/Cost), cost_in (calls/specs/Metered): request three;
--   verdict to salvage_image and map_changes (salvage/specs/Salvage), Said (salvage/specs/Said), known_of and salvage_of (rules/specs/Check): request four;
--   PassedOver, InUse and OfKind (image/specs/Image), SameButFirst and Unseen (rules/specs/Unread), letter_of (listing/specs/Listing): request five;
--   Namesakes (view/specs/Disk), is_legal, is_named and Removes (record/specs/Record), Holds and Apart (record/specs/Types), FoundApart (rules/specs/Types),
--   KeptBelow (salvage/specs/Said): request six;
--   judge_without and room_without (record/specs/Sixteen): request seven, of which no more has landed.
-- That the code does so is what each function's contract says, and those are proved with it. Assumes nothing.
use Rattle.std.specs.Prelude.{◌≡◌, refl, true, false, List, [], ◌∷◌, ◌++◌, map, ◌↔◌, ◌⊎◌, ℕ, ◌+◌, ◌-◌, ◌*◌, ◌/◌, ◌≤◌, ◌<◌, min, eqb, ℤ, length, get_or, take, drop, replicate, Some, Err, Ok, None}
use Rattle.std.proofs.Math.Option.{none, some}
use Rattle.std.proofs.Common.{inl, inr, arith, le-ltb}
use Rattle.std.proofs.lemmas.List.Edits.{sets}
use Rattle.laws.specs.declared.Refusal.{Refusal}
use Rattle.laws.specs.Refusals.{refusal_at, filled, unless, number_of, place_of}
use Rattle.laws.specs.Truth.{pick}
use Rattle.laws.specs.Lemmas.Truth.{clash}
use Rattle.laws.specs.Scan.{total, count}
use Rattle.laws.specs.Splice.{splice, part}
use Rattle.laws.specs.Reader.{bytes, tab}
use Rattle.laws.specs.Member.{In}
use Rattle.layout.specs.declared.Kind.{Kind}
use Rattle.layout.specs.declared.Kind.TheVariants.{S900, S1000, S3000}
use Rattle.layout.specs.declared.Density.{Density}
use Rattle.layout.specs.declared.Density.TheVariants.{Low, High}
use Rattle.layout.specs.declared.Layout.{Layout}
use Rattle.layout.specs.Layouts.{layout_of, length_of, data_blocks, slot_offset, map_offset, block_offset}
use Rattle.layout.specs.Right as right
use Rattle.layout.proofs.Right.{layout_right}
use Rattle.blocks.specs.Blocks.{blocks_for}
use Rattle.names.specs.Akaii.{akaii_of, ascii_of, capital}
use Rattle.names.specs.Akaii as akaii
use Rattle.names.specs.Names.{to_disk, padding, legal_name, legal_type, legal_area, area_of, name_of, capitals}
use Rattle.names.specs.NameLaws as names
use Rattle.names.proofs.NameLaws as names_proved
use Rattle.map.specs.Map.{map_at, free_count, Data, chain, Astray, Miscounted}
use Rattle.map.specs.Values as values
use Rattle.map.specs.Values.{Other, Reaches}
use Rattle.view.specs.Disk.{View, Entry, File, used, formed, owned, content_of, takes, Owns}
use Rattle.view.specs.Rules.{bad_system, stray}
use Rattle.view.specs.Broken.{Breaks, legal, owner}
use Rattle.image.specs.Image.{view_of, files_in, InUse, OfKind, DiskRules, erased, remove_image, new_entry}
use Rattle.image.specs.Outside.{Within, InEntry, InMap}
use Rattle.salvage.specs.Salvage.{drops, disk_after, report_of, survivors, salvage_image, map_changes, report_after}
use Rattle.salvage.proofs.Said as said
use Rattle.salvage.specs.Said.{Said, KeptBelow}
use Rattle.salvage.specs.Theorems as salvages
use Rattle.salvage.proofs.Theorems as salvages_proved
use Rattle.salvage.specs.Theorems.{SalvageTouches}
use Rattle.record.specs.Record.{Shape, Files, Call, check, list, find, page, put, remove, salvage, refused, refused_by, valued, paged, done, Turn, kept_file, file_count, slot_of, empty_slot, free, file_at, refuse, is_legal, judge_name, judge_put, kept_report, salvaging, step_files}
use Rattle.record.specs.Order.{room_for}
use Rattle.record.specs.Order as order
use Rattle.record.specs.Sixteen.{judge_without, room_without}
use Rattle.record.specs.Sixteen as sixteen
use Rattle.record.specs.Spelling.{in_capitals}
use Rattle.record.specs.Types.{Holds, Apart}
use Rattle.record.proofs.Types as known
use Rattle.rules.specs.Check.{known_of, check_of, lent, came, salvage_of, call_of, Made, known_as, accepting}
use Rattle.rules.proofs.Accepts as accepted
use Rattle.rules.specs.Accepted.{accepted_as}
use Rattle.rules.proofs.Exactly as exactly
use Rattle.rules.specs.Exactly.{Owed}
use Rattle.rules.proofs.Head as head
use Rattle.rules.specs.Head.{Read}
use Rattle.rules.specs.Lemmas.Steps as steps
use Rattle.rules.specs.Salvage as salvaged
use Rattle.rules.proofs.Salvage as salvaged_proved
use Rattle.rules.proofs.Refused as refusals
use Rattle.rules.proofs.Small as small
use Rattle.rules.specs.Small.{Numbered}
use Rattle.rules.proofs.Demand as demand
use Rattle.rules.specs.Demand.{Ran, Behaves}
use Rattle.rules.proofs.Outside as outside
use Rattle.rules.specs.Outside.{TouchedBy}
use Rattle.rules.proofs.Mark as mark
use Rattle.rules.specs.Mark.{last_block}
use Rattle.rules.proofs.Spelling as spelling
use Rattle.rules.specs.Second as second
use Rattle.rules.proofs.Second as second_proved
use Rattle.rules.proofs.Types as types
use Rattle.rules.specs.Types.{FoundApart}
use Rattle.rules.proofs.Unread as unread
use Rattle.rules.specs.Unread.{SameButFirst, Unseen}
use Rattle.pages.specs.Cost as cost
use Rattle.pages.specs.Cost.{holds, blocks_holding, no_cost, cost_of}
use Rattle.calls.specs.Metered.{cost_in}
use Rattle.calls.specs.Costs as costs
use Rattle.session.specs.Script.{run_of, entries}
use Rattle.session.proofs.Turns as scripts
use Rattle.session.specs.Turns.{turns, leave}
use Rattle.rows.specs.Failing.{Least}
use Rattle.samples.specs.declared.Sampler.{Sampler}
use Rattle.samples.specs.Samples.{count_in, header_of, file_size, room_fault, unpack_of, pack_of, Bytes}
use Rattle.samples.specs.Rules.{SampleRules}
use Rattle.samples.specs.Calls as codecs
use Rattle.samples.proofs.Calls as codecs_proved
use Rattle.samples.specs.Calls.{Words, PackRules}
use Rattle.program.specs.Program.{program_of, Sized, ProgramRules, Fails}
use Rattle.program.proofs.Accepted as programs
use Rattle.listing.specs.Listing.{listing_of}
use Rattle.listing.specs.Lines.{lines_of}
use Rattle.listing.proofs.LineLaws as listings
use Rattle.table.specs.Table.{rows, All}
use Rattle.table.proofs.Table as table
use Rattle.skilletjay.specs.Told.{CTurn, told_of, refused_turn, turn_in, CRan, turns_in}
use Rattle.skilletjay.specs.Sequence as sequence
use Rattle.skilletjay.proofs.Sequence as sequence_proved
use Rattle.skilletjay.specs.Counted.{Counting, lent_to, counting_of}
use Rattle.skilletjay.specs.Counted as counting

-- ---- Demand 1: any bytes; a refusal has a number of the table, and changes nothing that was lent

-- The calls on a disk: check, list, find, page, put, remove.
pub refused_unchanged : (img : List ℕ) (c : Call) (r : Refusal) → (call_of img c).answer.refusal ≡ some r → call_of img c ≡ came (refused_by r) (lent c) img
refused_unchanged = refusals.unchanged

pub refused-numbered : (img : List ℕ) (c : Call) (r : Refusal) → (call_of img c).answer.refusal ≡ some r → Numbered r
refused-numbered = small.refusal_numbered

-- The calls that count: unpack, pack, the check of a program, the blocks of a file.
pub counting_unchanged : (c : Counting) (r : Refusal) → (counting_of c).answer ≡ Err r → (1 ≤ number_of r) × ((counting_of c).output ≡ lent_to c)
counting_unchanged = counting.counting_kept

-- The order in which a call's refusals are asked for, judged on the record. Find and remove: 11, 10.
pub find_illegal : (k : Kind) (d : Density) (files : Files) (name : List ℕ) (type : ℕ) → is_legal (layout_of k d) name type ≡ false → judge_name (layout_of k d) files name type ≡ refuse 11 0
find_illegal k d = order.order_illegal (layout_of k d)

pub find_missing : (k : Kind) (d : Density) (files : Files) (name : List ℕ) (type : ℕ) → is_legal (layout_of k d) name type ≡ true → slot_of (layout_of k d) files name type ≡ None
    → judge_name (layout_of k d) files name type ≡ refuse 10 0
find_missing k d = order.order_missing (layout_of k d)

-- List: 10. Page: 10, 17.
pub list_missing : (shape : Shape) (files : Files) (slot : ℕ) → file_at shape.layout files slot ≡ none → (step_files shape files (list slot)).answer ≡ refused 10 0
list_missing = order.order_unlisted

pub page_missing : (shape : Shape) (files : Files) (slot offset : ℕ) (out : List ℕ) → file_at shape.layout files slot ≡ none → (step_files shape files (page slot offset out)).answer ≡ refused 10 0
page_missing = order.order_unpaged

pub page_above : (shape : Shape) (files : Files) (slot offset : ℕ) (out : List ℕ) (f : File) → file_at shape.layout files slot ≡ some f → length f.content < offset
    → (step_files shape files (page slot offset out)).answer ≡ refused 17 0
page_above = order.order_above

-- Put: 11, 13, 12 at the slot that has name and type, 14, then 15 and 16.
pub put_illegal : (k : Kind) (d : Density) (files : Files) (name : List ℕ) (type : ℕ) (content : List ℕ) → is_legal (layout_of k d) name type ≡ false
    → judge_put (layout_of k d) files name type content ≡ refuse 11 0
put_illegal k d = order.order_unfit (layout_of k d)

pub put_empty : (k : Kind) (d : Density) (files : Files) (name : List ℕ) (type : ℕ) (content : List ℕ) → is_legal (layout_of k d) name type ≡ true
    → length content ≡ 0 → judge_put (layout_of k d) files name type content ≡ refuse 13 0
put_empty k d = order.order_empty (layout_of k d)

pub put_taken : (k : Kind) (d : Density) (files : Files) (name : List ℕ) (type : ℕ) (content : List ℕ) → is_legal (layout_of k d) name type ≡ true
    → (length content ≡ 0 → ⊥) → {s : ℕ} → slot_of (layout_of k d) files name type ≡ Some s → judge_put (layout_of k d) files name type content ≡ refuse 12 s
put_taken k d = order.order_taken (layout_of k d)

pub put_full : (k : Kind) (d : Density) (files : Files) (name : List ℕ) (type : ℕ) (content : List ℕ) → is_legal (layout_of k d) name type ≡ true
    → (length content ≡ 0 → ⊥) → slot_of (layout_of k d) files name type ≡ None → empty_slot (layout_of k d) files ≡ None → judge_put (layout_of k d) files name type content ≡ refuse 14 0
put_full k d = order.order_full (layout_of k d)

pub put_room : (k : Kind) (d : Density) (files : Files) (name : List ℕ) (type : ℕ) (content : List ℕ) → is_legal (layout_of k d) name type ≡ true
    → (length content ≡ 0 → ⊥) → {s : ℕ} → slot_of (layout_of k d) files name type ≡ None → empty_slot (layout_of k d) files ≡ Some s
    → judge_put (layout_of k d) files name type content ≡ room_for (free (layout_of k d) files) (length content) s
put_room k d = order.order_room (layout_of k d)

-- ---- Demand 2: accepted exactly when the disk rules hold

pub accepted_exactly : (k : Kind) (d : Density) (img : List ℕ) → (check_of img ≡ accepted_as k d img) ↔ DiskRules (layout_of k d) img
accepted_exactly = accepted.accepted

-- The number of files, and the free blocks counted in the map.
pub accepted_counts : (k : Kind) (d : Density) (f n : ℕ) (img : List ℕ) → check_of img ≡ accepting k d f n
    → (f ≡ file_count (layout_of k d) (files_in (layout_of k d) img)) × (n ≡ free_count (layout_of k d) (map_at (bytes img)))
accepted_counts = accepted.accepted_counts

-- Otherwise refused: by each of 1 to 9 exactly when it is due, at its place.
pub refused_exactly : (img : List ℕ) (r : Refusal) → (check_of img ≡ Err r) ↔ Owed img r
refused_exactly = exactly.refused_exactly

-- The check reads length, directory and map alone: of the two directories that may be there the one in use, and byte 16, which tells it.
pub check_reads : (x y : List ℕ) → length y ≡ length x → bytes y 16 ≡ bytes x 16
    → ((k : Kind) (d : Density) (i : ℕ) → length x ≡ length_of d → InUse (layout_of k d) (bytes x) → Read (layout_of k d) i → bytes y i ≡ bytes x i) → check_of y ≡ check_of x
check_reads = head.check_reads

-- Pages are the file's bytes: as many as the output holds and the file has left; the end is reached exactly if none is left after them.
pub page-bytes : (k : Kind) (d : Density) (f n : ℕ) (img : List ℕ) → check_of img ≡ accepting k d f n → (slot : ℕ) (file : File) → files_in (layout_of k d) img slot ≡ some file
    → (offset : ℕ) (out : List ℕ) → offset ≤ length file.content
    → let count = min (length out) (length file.content - offset) in
    call_of img (page slot offset out) ≡ came (paged count (eqb (offset + count) (length file.content))) (part file.content offset count ++ drop count out) img
page-bytes = demand.page-bytes

-- Unpacking and packing follow the published layouts: accepted exactly by their rules.
pub unpack_exactly : (sampler : Sampler) (file : List ℕ) (words : List ℤ)
    → ((unpack_of sampler file words).answer ≡ Ok (count_in sampler (header_of sampler file))) ↔ (SampleRules sampler file × (count_in sampler (header_of sampler file) ≤ length words))
unpack_exactly = codecs_proved.unpack_accepted

pub pack_exactly : (sampler : Sampler) (header : List ℕ) (words : List ℤ) (out : List ℕ) → Words words
    → ((pack_of sampler header words out).answer ≡ Ok (file_size sampler (length words))) ↔ PackRules sampler header words out
pack_exactly = codecs.pack_accepted

-- They undo each other: what was packed has its header, and unpacks to the words; what was unpacked packs to the file.
pub packed_header : (sampler : Sampler) (header : List ℕ) (words : List ℤ) (out : List ℕ) (size : ℕ) → (pack_of sampler header words out).answer ≡ Ok size
    → header_of sampler (take size (pack_of sampler header words out).output) ≡ header
packed_header = codecs.header_packed

pub packed_unpacks : (sampler : Sampler) (header : List ℕ) (words : List ℤ) (out : List ℕ) (size : ℕ) → (pack_of sampler header words out).answer ≡ Ok size → Words words → (into : List ℤ)
    → unpack_of sampler (take size (pack_of sampler header words out).output) into ≡ unless 21 (room_fault (length into) (length words)) into (filled (Ok (length words)) (sets into 0 words))
packed_unpacks = codecs.unpack_packed

pub unpacked_packs : (sampler : Sampler) (file : List ℕ) (words : List ℤ) (count : ℕ) → Bytes file → (unpack_of sampler file words).answer ≡ Ok count → (out : List ℕ)
    → pack_of sampler (header_of sampler file) (take count (unpack_of sampler file words).output) out ≡ unless 21 (room_fault (length out) (length file)) out (filled (Ok (length file)) (splice out 0 file))
unpacked_packs = codecs_proved.pack_unpacked

-- Programs: accepted with n keygroups exactly by their rules, else refused at the lowest failing offset.
pub program_exactly : (file : List ℕ) (n : ℕ) → (program_of file ≡ Ok n) ↔ ProgramRules file n
program_exactly = programs.program_accepted

pub program_lowest : (file : List ℕ) (n : ℕ) (r : Refusal) → Sized file n → program_of file ≡ Err r → (number_of r ≡ 20) × Least (Fails file n) (place_of r)
program_lowest = programs.program_lowest

-- ---- Demand 3: any sequence of calls on an accepted image

-- Before the first call and after each: free blocks and files make the data area.
pub free_blocks_is : (k : Kind) (d : Density) (f n : ℕ) (img : List ℕ) → check_of img ≡ accepting k d f n
    → (n ≡ free_count (layout_of k d) (map_at (bytes img))) × (n + total (λ s. takes (files_in (layout_of k d) img s)) 0 (layout_of k d).slots ≡ data_blocks (layout_of k d))
free_blocks_is = demand.free_blocks_is

pub data_areas : (data_blocks (layout_of S900 Low) ≡ 796) × (data_blocks (layout_of S900 High) ≡ 1595) × (data_blocks (layout_of S1000 Low) ≡ 796) × (data_blocks (layout_of S1000 High) ≡ 1595) × (data_blocks (layout_of S3000 High) ≡ 1583)
data_areas = (refl, refl, refl, refl, refl)

-- Whatever calls are made, each on the image that the last one left: after each of them answer, output, image and files are the record's, files that
-- it doesn't name stay, the free blocks are right, a put has room or not, and downloads join (`Kept`, one field each).
pub record_kept : (k : Kind) (d : Density) (f n : ℕ) (img : List ℕ) → check_of img ≡ accepting k d f n → (ts : List Turn) → Ran img ts → Behaves k d img (files_in (layout_of k d) img) ts
record_kept = demand.demand_3

-- The same of C's functions, from their results alone.
pub record_kept_c : (k : Kind) (d : Density) (f n : ℕ) (img : List ℕ) → check_of img ≡ accepting k d f n → (ts : List CTurn) → CRan (layout_of k d) img ts
    → Behaves k d img (files_in (layout_of k d) img) (turns_in (layout_of k d) img ts)
record_kept_c = sequence_proved.demand_3_c

-- The same of a script of calls that C lends whole.
pub record_kept_script : (k : Kind) (d : Density) (f n : ℕ) (img script pool out : List ℕ) → check_of img ≡ accepting k d f n
    → let ts = turns script pool (entries script out) 0 img out in
    (run_of img script pool out ≡ leave out 0 img ts) × Behaves k d img (files_in (layout_of k d) img) ts
record_kept_script = scripts.script_serves

-- Nothing else in the image changes, on any bytes; the volume label is kept.
pub nothing_else : (img : List ℕ) (c : Call) (i : ℕ) → (TouchedBy (check_of img) img c i → ⊥) → bytes (call_of img c).state i ≡ bytes img i
nothing_else = outside.nothing_else

pub length_kept : (img : List ℕ) (c : Call) → length (call_of img c).state ≡ length img
length_kept = outside.length_kept

pub label_kept : (d : Density) (f n : ℕ) (img : List ℕ) → check_of img ≡ accepting S1000 d f n → (c : Call) (i : ℕ)
    → map_offset (layout_of S1000 d).blocks ≤ i → i < block_offset (layout_of S1000 d).first → bytes (call_of img c).state i ≡ bytes img i
label_kept = outside.label_kept

-- ---- What C gets: each result tells the record's answer whole

pub result_tells : (k : Kind) (d : Density) (f n : ℕ) (img : List ℕ) → check_of img ≡ accepting k d f n → (t : CTurn)
    → let u = turn_in (layout_of k d) img t in t ≡ told_of img u.call → Made img u.call u.answer u.output u.after
result_tells = sequence_proved.told_made

-- On a refusal, whatever the image: its number and place, 0 in every other field, and all that was lent as it was.
pub result_refused : (img : List ℕ) (c : Call) (r : Refusal) → (call_of img c).answer.refusal ≡ some r → told_of img c ≡ refused_turn img c r
result_refused = sequence.told_refusal

-- ---- The listing program's text: that of the check's and list's answers, though it keeps the first 17,408 bytes alone

pub listing_lines : (img : List ℕ) → lines_of (take 17408 img) (length img) ≡ listing_of (call_of img check).answer (λ s. (call_of img (list s)).answer)
listing_lines = listings.lines_of_is

-- ---- The worked disks and words P1 to P13

pub worked : All rows
worked = table.table

-- ---- Request one: S1000 files end on 49,152, and 19,152 is a bad value like any other

pub s1000_mark : (d : Density) → (layout_of S1000 d).mark ≡ 49152
s1000_mark d = refl

-- It is the S900's mark and a system block's value added up.
pub mark_sum : (d : Density) → (layout_of S1000 d).mark ≡ (layout_of S900 d).mark + (layout_of S1000 d).reserved
mark_sum = right.mark_sum

-- In reading and in put: after any call on an accepted disk the last block of every file holds it.
pub s1000_ends : (d : Density) (f n : ℕ) (img : List ℕ) → check_of img ≡ accepting S1000 d f n → (c : Call) (slot : ℕ) (file : File)
    → let after = (call_of img c).state in files_in (layout_of S1000 d) after slot ≡ some file → map_at (bytes after) (last_block (layout_of S1000 d) after slot) ≡ 49152
s1000_ends = mark.ends_on_mark S1000

pub old_mark : (d : Density) → Other (layout_of S1000 d) 19152
old_mark d = (λ h. omega (arith, h.1, (layout_right S1000 d).blocks_most), λ e. omega arith)

-- No data block of an accepted disk holds it. Before a chain's last block it is 6, at it 7, and where no chain has the block 9.
pub old_mark_refused : (d : Density) (f n : ℕ) (img : List ℕ) → check_of img ≡ accepting S1000 d f n → (block : ℕ) → Data (layout_of S1000 d) block → map_at (bytes img) block ≡ 19152 → ⊥
old_mark_refused d f n img accept block inside e = let z = mark.no_other-value S1000 d f n img accept block inside (rw e (old_mark d)) in omega arith

pub old_mark_before : (d : Density) (m : ℕ → ℕ) (links start j : ℕ) → j < links → Reaches (layout_of S1000 d) m links start j → m (get_or (chain m links start) j 0) ≡ 19152
    → Astray (layout_of S1000 d) m links start
old_mark_before d m links start j h r e = values.other_before (layout_of S1000 d) m (layout_right S1000 d) links start j h r (rw e (old_mark d))

pub old_mark_last : (d : Density) (m : ℕ → ℕ) (links start : ℕ) → Reaches (layout_of S1000 d) m links start links → m (get_or (chain m links start) links 0) ≡ 19152
    → Miscounted (layout_of S1000 d) m links start
old_mark_last d m links start r e = values.other_last (layout_of S1000 d) m links start r (rw e (old_mark d))

pub old_mark_stray : (d : Density) (v : View) (block : ℕ) → Data (layout_of S1000 d) block → v.map block ≡ 19152 → ((s : ℕ) → Owns (layout_of S1000 d) v s block → ⊥)
    → Breaks (layout_of S1000 d) v owner 9 block
old_mark_stray d v block inside e unowned = (refl, inside, λ z. omega arith, unowned)

-- ---- Request two: names may be typed in small letters on S1000 disks

-- A code's byte has that code, as before; a byte's code is its capital's, so there and back is the capital.
pub code_back : (code byte : ℕ) → ascii_of code ≡ Some byte → akaii_of byte ≡ Some code
code_back = akaii.ascii_back

pub byte_folded : (byte : ℕ) → akaii_of (capital byte) ≡ akaii_of byte
byte_folded = akaii.akaii_capital

pub byte_back : (byte code : ℕ) → akaii_of byte ≡ Some code → ascii_of code ≡ Some (capital byte)
byte_back = akaii.akaii_back

-- The capitals of a name: on S1000 disks byte by byte, on S900 disks the name itself.
pub s1000-capitals : (d : Density) (name : List ℕ) → capitals (layout_of S1000 d) name ≡ map capital name
unfolding capitals
s1000-capitals d name = refl

pub s900_own_case : (d : Density) (name : List ℕ) → capitals (layout_of S900 d) name ≡ name
s900_own_case d = names.capitals_own (layout_of S900 d) refl

pub capitals_once : (k : Kind) (d : Density) (name : List ℕ) → capitals (layout_of k d) (capitals (layout_of k d) name) ≡ capitals (layout_of k d) name
capitals_once k d = names_proved.capitals_twice (layout_of k d)

pub capitals-legal : (k : Kind) (d : Density) (name : List ℕ) → legal_name (layout_of k d) (capitals (layout_of k d) name) ≡ legal_name (layout_of k d) name
capitals-legal k d = names_proved.capitals-legal (layout_of k d)

-- There and back is the capitalised name.
pub name_back : (k : Kind) (d : Density) (name : List ℕ) → legal_name (layout_of k d) name ≡ true → name_of (layout_of k d) (area_of (layout_of k d) name) ≡ capitals (layout_of k d) name
name_back k d = names_proved.name_back (layout_of k d) (layout_right k d)

-- Two spellings that fold alike are one name: calls that differ in nothing else come to the same, in answer, output and image.
pub one_name : (k : Kind) (d : Density) (f n : ℕ) (img : List ℕ) → check_of img ≡ accepting k d f n → (c e : Call) → in_capitals (layout_of k d) c ≡ in_capitals (layout_of k d) e → call_of img c ≡ call_of img e
one_name = spelling.one_name

-- Capitals are kept: by a put, and so by every file on a disk; list gives them.
pub put_keeps-capitals : (k : Kind) (d : Density) (f n : ℕ) (img : List ℕ) → check_of img ≡ accepting k d f n → (name : List ℕ) (type : ℕ) (content : List ℕ) (slot : ℕ)
    → (call_of img (put name type content)).answer ≡ valued slot → files_in (layout_of k d) (call_of img (put name type content)).state slot ≡ some (kept_file (layout_of k d) name type content)
put_keeps-capitals = spelling.put_keeps

pub names_in_capitals : (k : Kind) (d : Density) (f n : ℕ) (img : List ℕ) → check_of img ≡ accepting k d f n → (slot : ℕ) (file : File) → files_in (layout_of k d) img slot ≡ some file
    → capitals (layout_of k d) file.name ≡ file.name
names_in_capitals = spelling.kept_name_is

-- Find, put and remove follow: every spelling of a file's name, with its type, finds it, is taken, and removes it.
pub spelling_found : (k : Kind) (d : Density) (f n : ℕ) (img : List ℕ) → check_of img ≡ accepting k d f n → (slot : ℕ) (file : File) → files_in (layout_of k d) img slot ≡ some file
    → (name : List ℕ) → capitals (layout_of k d) name ≡ file.name → call_of img (find name file.type) ≡ came (valued slot) [] img
spelling_found = spelling.found

pub spelling_taken : (k : Kind) (d : Density) (f n : ℕ) (img : List ℕ) → check_of img ≡ accepting k d f n → (slot : ℕ) (file : File) → files_in (layout_of k d) img slot ≡ some file
    → (name : List ℕ) → capitals (layout_of k d) name ≡ file.name → (content : List ℕ) → (length content ≡ 0 → ⊥)
    → call_of img (put name file.type content) ≡ came (refused 12 slot) [] img
spelling_taken = spelling.taken

pub spelling_removed : (k : Kind) (d : Density) (f n : ℕ) (img : List ℕ) → check_of img ≡ accepting k d f n → (slot : ℕ) (file : File) → files_in (layout_of k d) img slot ≡ some file
    → (name : List ℕ) → capitals (layout_of k d) name ≡ file.name → call_of img (remove name file.type) ≡ came done [] (remove_image (layout_of k d) img slot)
spelling_removed = spelling.removed

-- ---- Request three: a page carries on from the block it stands in, and what it cost is told

-- What a page answers and gives is as before (`page-bytes`). It costs what its bytes do, by their place in the file; a refused page costs nothing.
pub page_cost_is : (k : Kind) (d : Density) (f n : ℕ) (img : List ℕ) → check_of img ≡ accepting k d f n → (slot : ℕ) (file : File) → files_in (layout_of k d) img slot ≡ some file
    → (offset room : ℕ) → cost_in img slot offset room ≡ cost_of (blocks_for (length file.content)) offset (min room (length file.content - offset))
page_cost_is = costs.page_cost_is

pub refused_cost : (img : List ℕ) (slot offset : ℕ) (out : List ℕ) (r : Refusal) → (call_of img (page slot offset out)).answer.refusal ≡ some r → cost_in img slot offset (length out) ≡ no_cost
refused_cost = costs.refused_cost

-- With bytes: links, the last byte's offset in the file divided by 1,024 and rounded down; runs, the blocks that hold its bytes. An empty page: 0 and 0.
pub cost_links : (blocks offset size : ℕ) → 1 ≤ size → (cost_of blocks offset size).links ≡ (offset + size - 1) / 1024
cost_links = cost.cost_links

pub cost_runs : (blocks offset size : ℕ) → 1 ≤ size → (cost_of blocks offset size).runs ≡ blocks_holding blocks offset size
cost_runs = cost.cost_runs

pub cost_empty : (blocks offset : ℕ) → cost_of blocks offset 0 ≡ record { links = 0; runs = 0 }
cost_empty blocks offset = cost.cost_none blocks offset 0 refl

-- The blocks that hold its bytes: of the file's blocks those in which one of them lies, the last one's number less the first one's, and one.
pub holds_exactly : (offset size block : ℕ) → (holds offset size block ≡ true) ↔ ((i : ℕ) × (offset ≤ i) × (i < offset + size) × (i / 1024 ≡ block))
holds_exactly = cost.holds_exactly

pub blocks_between : (blocks offset size : ℕ) → 1 ≤ size → offset + size ≤ 1024 * blocks → blocks_holding blocks offset size ≡ (offset + size - 1) / 1024 - offset / 1024 + 1
blocks_between = cost.blocks_between

-- ---- Request four: a salvage run, with a statement of loss

-- The call on any bytes: 1 and 2 as the check gives them, then 21, and nothing else is refused; else it is done.
pub salvage_any : (img report : List ℕ) → call_of img (salvage report) ≡ salvage_of img report
salvage_any = salvaged_proved.salvage_call_is

pub known_exactly : (img : List ℕ) (k : Kind) (d : Density) → (known_of img ≡ known_as k d) ↔ ((length img ≡ length_of d) × OfKind (layout_of k d) (bytes img))
known_exactly img k d = (accepted.known_is (length img) (bytes img) k d, λ p. accepted.is_known (length img) (bytes img) k d p.0 p.1)

pub unknown_refused : (img : List ℕ) (r : Refusal) → known_of img ≡ Err r → check_of img ≡ Err r
unknown_refused img r = steps.head_unknown (bytes img) (length img)

pub salvage_refuses : (img report : List ℕ) (r : Refusal)
    → ((salvage_of img report).answer.refusal ≡ some r)
    ↔ ((known_of img ≡ Err r) ⊎ ((k : Kind) × (d : Density) × (known_of img ≡ known_as k d) × (length report < (layout_of k d).slots) × (r ≡ refusal_at 21 0)))
salvage_refuses = salvaged_proved.salvage_refuses

pub salvage_done : (k : Kind) (d : Density) (img : List ℕ) → known_of img ≡ known_as k d → (report : List ℕ) → (layout_of k d).slots ≤ length report
    → let l = layout_of k d in salvage_of img report ≡ came (valued (map_changes l img (salvage_image l img))) (report_after l img report) (salvage_image l img)
salvage_done = salvaged.salvage_done

-- The result is always accepted, as the kind and density that it was.
pub salvage_accepted : (k : Kind) (d : Density) (img : List ℕ) → known_of img ≡ known_as k d → check_of (salvage_image (layout_of k d) img) ≡ accepted_as k d (salvage_image (layout_of k d) img)
salvage_accepted = salvaged_proved.salvage_accepted

-- The report: a byte for each slot, and those past the slots are kept.
pub report_said : (k : Kind) (d : Density) (img report : List ℕ) (s : ℕ) → let l = layout_of k d in s < l.slots → get_or (report_after l img report) s 0 ≡ report_of l (view_of l (bytes img)) s
report_said k d = salvages.report_said (layout_of k d)

pub report_past : (k : Kind) (d : Density) (img report : List ℕ) (i : ℕ) → let l = layout_of k d in l.slots ≤ i → get_or (report_after l img report) i 0 ≡ get_or report i 0
report_past k d = salvages.report_past (layout_of k d)

-- Slot by slot the number is the first that applies, names with types and chains compared with kept lower slots, chains judged on the map as given.
pub report_exactly : (k : Kind) (d : Density) (v : View) (s : ℕ) → s < (layout_of k d).slots → (n : ℕ) → (report_of (layout_of k d) v s ≡ n) ↔ Said (layout_of k d) (disk_after (layout_of k d) v s) s n
report_exactly k d = said.report_exactly (layout_of k d) (layout_right k d)

module _ (k : Kind) (d : Density) (img : List ℕ) (known : known_of img ≡ known_as k d) where
  abbrev l : Layout
  l = layout_of k d

  abbrev given : View
  given = view_of l (bytes img)

  abbrev mended : List ℕ
  mended = salvage_image l img

  -- A kept file is what its own chain says in the given map, in its slot; every other slot is empty. 1 is said exactly of what is kept.
  pub salvage_kept : (s : ℕ) → s < l.slots → report_of l given s ≡ 1
      → files_in l mended s ≡ some (record { name = name_of l (given.entry s).area; type = (given.entry s).type; content = content_of given (given.entry s) })
  salvage_kept = salvages_proved.salvage_kept l (layout_right k d) img (salvaged_proved.known_size k d img known)

  pub salvage_gone : (s : ℕ) → s < l.slots → (report_of l given s ≡ 1 → ⊥) → files_in l mended s ≡ none
  salvage_gone = salvages_proved.salvage_gone l (layout_right k d) img (salvaged_proved.known_size k d img known)

  pub kept_exactly : (s : ℕ) → s < l.slots → (report_of l given s ≡ 1) ↔ ((f : File) × (files_in l mended s ≡ some f))
  kept_exactly = salvages_proved.kept_exactly l (layout_right k d) img (salvaged_proved.known_size k d img known)

  -- A dropped slot is as remove leaves it.
  pub salvage_erased : (s : ℕ) → s < l.slots → drops (report_of l given s) ≡ true → (view_of l (bytes mended)).entry s ≡ erased (given.entry s)
  salvage_erased = salvages_proved.salvage_erased l (layout_right k d) img (salvaged_proved.known_size k d img known)

  -- System values are restored, kept chains' map values stay, those of every other data block are 0; S900 system values, which nobody reads, stay.
  pub salvage_system : (b : ℕ) → b < l.system → map_at (bytes mended) b ≡ l.reserved
  salvage_system = salvages_proved.salvage_system l (layout_right k d) img (salvaged_proved.known_size k d img known)

  pub salvage_chained : (b : ℕ) → Data l b → In b (owned (survivors l given) l.slots) → map_at (bytes mended) b ≡ map_at (bytes img) b
  salvage_chained = salvages_proved.salvage_chained l (layout_right k d) img (salvaged_proved.known_size k d img known)

  pub salvage_freed : (b : ℕ) → Data l b → (In b (owned (survivors l given) l.slots) → ⊥) → map_at (bytes mended) b ≡ 0
  salvage_freed = salvages_proved.salvage_freed l (layout_right k d) img (salvaged_proved.known_size k d img known)

  pub salvage_unread : (b : ℕ) → l.system ≤ b → b < l.first → map_at (bytes mended) b ≡ map_at (bytes img) b
  salvage_unread = salvages_proved.salvage_unread l (layout_right k d) img (salvaged_proved.known_size k d img known)

  -- No other byte changes: a byte that does lies in the first 22 of a dropped slot or in a map value, and none is a data byte.
  pub salvage_outside : (i : ℕ) → (SalvageTouches l img i → ⊥) → bytes mended i ≡ bytes img i
  salvage_outside = salvages_proved.salvage_outside l img

  pub salvage_where : (i : ℕ) → SalvageTouches l img i → ((s : ℕ) × (s < l.slots) × (drops (report_of l given s) ≡ true) × InEntry l s i) ⊎ ((b : ℕ) × (b < l.blocks) × InMap b i)
  salvage_where = salvages_proved.touched_where l (layout_right k d) img

  pub salvage_data : (i : ℕ) → block_offset l.first ≤ i → bytes mended i ≡ bytes img i
  salvage_data = salvages_proved.salvage_data l (layout_right k d) img

  -- The count: wrong system values, and data blocks on no kept chain that weren't free.
  pub salvage_count : map_changes l img mended ≡ count (bad_system l given) 0 l.system + count (stray l (survivors l given)) l.first (l.blocks - l.first)
  salvage_count = salvages_proved.salvage_count l (layout_right k d) img (salvaged_proved.known_size k d img known)

  -- Run again it changes nothing: it says 1 of what was kept and 0 of all else, and counts 0.
  pub salvage_again : (report : List ℕ) → l.slots ≤ length report
      → salvage_of mended report ≡ came (valued 0) (tab (λ s. pick (eqb (report_of l given s) 1) 1 0) 0 l.slots ++ drop l.slots report) mended
  salvage_again = salvaged_proved.salvage_again k d img known

-- An accepted image comes back untouched, with 0 and 1 in the report, and a count of 0.
pub salvage_same : (k : Kind) (d : Density) (f n : ℕ) (img : List ℕ) → check_of img ≡ accepting k d f n → (report : List ℕ) → (layout_of k d).slots ≤ length report
    → salvage_of img report ≡ came (valued 0) (kept_report (layout_of k d) (files_in (layout_of k d) img) report) img
salvage_same = salvaged_proved.salvage_same

-- So it stands among the calls of demand 3: by its report's length and the record's files alone, refused by 21 alone, and the files stay.
pub salvage_record : (shape : Shape) (files : Files) (report : List ℕ) → step_files shape files (salvage report) ≡ salvaging files shape.layout files report
unfolding step_files
salvage_record shape files report = refl

-- ---- Request five: S3000 high-density disks. All that is said above of a kind and a density holds for this one

-- Its numbers: a second directory of 512 slots at block 5, data from block 17 on, 17 system values, names as on S1000 disks but for 0,0,0,2 after them, types
-- of 193 to 218, identity 0,12.
pub s3000_layout : layout_of S3000 High
    ≡ record { blocks = 1600; first = 17; slots = 512; directory = 5120; second = true; mark = 49152; system = 17; reserved = 16384; letters = 12; low = 0; high = 40; akaii = true; pad = 0; last = 2; least = 193; most = 218; identity = 3072 }
s3000_layout = refl

-- It is known by its length and by 255 as slot 0's type in the first directory, whatever the identities; a low image with that 255 is refused by 2.
pub s3000_known : (img : List ℕ) → (known_of img ≡ known_as S3000 High) ↔ ((length img ≡ 1638400) × (bytes img 16 ≡ 255))
s3000_known = second_proved.s3000_known

pub passed_over-low : (img : List ℕ) → length img ≡ 819200 → bytes img 16 ≡ 255 → check_of img ≡ Err (refusal_at 2 0)
passed_over-low = second_proved.passed_over-low

-- No call reads the first directory but byte 16: disks that differ in nothing else get the same answers and outputs, and differ in nothing else afterwards.
pub first_unread : (x y : List ℕ) → known_of x ≡ known_as S3000 High → SameButFirst x y → (c : Call) → Unseen (call_of x c) (call_of y c)
first_unread x y known same = unread.first_unread S3000 High refl x y known same

-- Nor does any call change it.
pub first_kept : (img : List ℕ) → known_of img ≡ known_as S3000 High → (i : ℕ) → i < 1536 → (c : Call) → bytes (call_of img c).state i ≡ bytes img i
first_kept img known i low = unread.first_kept S3000 High refl img known i low

-- Nor, on an accepted disk, what lies between the map and the directory in use, where the volume label is.
pub s3000_label_kept : (f n : ℕ) (img : List ℕ) → check_of img ≡ accepting S3000 High f n → (c : Call) (i : ℕ) → 4736 ≤ i → i < 5120 → bytes (call_of img c).state i ≡ bytes img i
s3000_label_kept f n img accept c i p q = outside.system_kept S3000 High f n img accept c i (omega arith) (inr p) (inl q)

-- A used slot is well formed exactly so: legal name and 0,0,0,2, type, length, identity 0,12.
pub s3000-formed : (e : Entry)
    → (formed (layout_of S3000 High) e ≡ true) ↔ ((legal_area (layout_of S3000 High) e.area ≡ true) × ((193 ≤ e.type) × (e.type ≤ 218)) × (1 ≤ e.size) × (e.identity ≡ 3072))
s3000-formed e = second.formed_exactly (layout_of S3000 High) e

-- Of an empty slot none of this is asked: whatever its identity, it is no fault.
pub empty_unjudged : (v : View) (slot : ℕ) → used (v.entry slot) ≡ false → (number : ℕ) → Breaks (layout_of S3000 High) v legal number slot → ⊥
empty_unjudged v slot empty number broken = clash broken.1.1 empty

-- Put writes the slot whole: the name's letters and 0,0,0,2, the type byte itself, the length, and 0,12 over whatever identity stood there.
pub s3000_put : (f n : ℕ) (img : List ℕ) → check_of img ≡ accepting S3000 High f n → (name : List ℕ) (type : ℕ) (content : List ℕ) (slot : ℕ) → (call_of img (put name type content)).answer ≡ valued slot
    → let e = (view_of (layout_of S3000 High) (bytes (call_of img (put name type content)).state)).entry slot in
    (e.area ≡ map (to_disk (layout_of S3000 High)) name ++ (0 ∷ 0 ∷ 0 ∷ 2 ∷ [])) × (e.type ≡ type) × (e.size ≡ length content) × (e.identity ≡ 3072)
unfolding new_entry area_of padding
s3000_put f n img accept name type content slot a = rw (second_proved.put_writes S3000 High f n img accept name type content slot a) (refl, refl, refl, refl)

-- Remove leaves 0,12.
pub s3000_remove : (f n : ℕ) (img : List ℕ) → check_of img ≡ accepting S3000 High f n → (slot : ℕ) (file : File) → files_in (layout_of S3000 High) img slot ≡ some file
    → (name : List ℕ) → capitals (layout_of S3000 High) name ≡ file.name
    → (view_of (layout_of S3000 High) (bytes (call_of img (remove name file.type)).state)).entry slot ≡ record { area = replicate 16 0; type = 0; size = 0; start = 0; identity = 3072 }
s3000_remove = second_proved.remove_leaves S3000 High

-- On S900 and S1000 disks no call changes an identity's bytes.
pub identity_kept : (k : Kind) (d : Density) (f n : ℕ) (img : List ℕ) → check_of img ≡ accepting k d f n → (layout_of k d).second ≡ false → ((j : ℕ) → bytes img j < 256)
    → (c : Call) (s i : ℕ) → s < (layout_of k d).slots → Within (slot_offset (layout_of k d) s + 22) 2 i → bytes (call_of img c).state i ≡ bytes img i
identity_kept k d f n img accept own small c s i = outside.identity_kept k d f n img accept c i own small s

-- 512 slots: no other holds a file, so that list and page answer 10 (`page_missing`); put answers 14 where all are used (`put_full`), and salvage asks for as
-- many bytes of report. All 17 system values are restored (`salvage_system`).
pub s3000_slots : (files : Files) (slot : ℕ) → 512 ≤ slot → file_at (layout_of S3000 High) files slot ≡ none
unfolding file_at
s3000_slots files slot above = rw (le-ltb slot 512 above) refl

pub s3000_past : (f n : ℕ) (img : List ℕ) → check_of img ≡ accepting S3000 High f n → (slot : ℕ) → 512 ≤ slot → (call_of img (list slot)).answer ≡ refused 10 0
s3000_past f n img accept slot above = second_proved.list_past S3000 High f n img accept slot above

pub s3000_report : (img report : List ℕ) → known_of img ≡ known_as S3000 High → length report < 512 → salvage_of img report ≡ came (refused 21 0) report img
s3000_report img report known = salvaged.salvage_short S3000 High img known report

-- The first 17,408 bytes and the length decide the check of every kind.
pub head_decides : (x y : List ℕ) → length x ≡ length y → take 17408 x ≡ take 17408 y → check_of x ≡ check_of y
head_decides = head.head_decides

-- ---- Request six: a program may share its sample's name

-- Names differ within one type alone: 5 is given by `refused_exactly`, for a slot whose name and type stand in a lower used one (`Breaks` at `single`).
pub one_of_a_type : (k : Kind) (d : Density) (f n : ℕ) (img : List ℕ) → check_of img ≡ accepting k d f n → Apart (files_in (layout_of k d) img)
one_of_a_type = spelling.one_of_a_type

-- The record is by name and type: of such files two of one name and two types are both found, each by its own, in two slots.
pub both_found : (l : Layout) (files : Files) → Apart files → (name : List ℕ) (s t : ℕ) (a b : File) → s < l.slots → t < l.slots → files s ≡ some a → files t ≡ some b → capitals l name ≡ a.name
    → capitals l name ≡ b.name → (a.type ≡ b.type → ⊥) → (slot_of l files name a.type ≡ Some s) × (slot_of l files name b.type ≡ Some t) × (s ≡ t → ⊥)
both_found = known.both_found

-- Find gives a slot exactly where it holds a file of that name and type, answers 10 exactly where none does, and 11 exactly where name or type is illegal.
pub found_exactly : (k : Kind) (d : Density) (f n : ℕ) (img : List ℕ) → check_of img ≡ accepting k d f n → (name : List ℕ) (type slot : ℕ)
    → (call_of img (find name type) ≡ came (valued slot) [] img) ↔ Holds (layout_of k d) (files_in (layout_of k d) img) name type slot
found_exactly = types.found_exactly

pub missing_exactly : (k : Kind) (d : Density) (f n : ℕ) (img : List ℕ) → check_of img ≡ accepting k d f n → (name : List ℕ) (type : ℕ)
    → (call_of img (find name type) ≡ came (refused 10 0) [] img)
    ↔ ((is_legal (layout_of k d) name type ≡ true) × ((s : ℕ) → Holds (layout_of k d) (files_in (layout_of k d) img) name type s → ⊥))
missing_exactly = types.missing_exactly

pub illegal_exactly : (k : Kind) (d : Density) (f n : ℕ) (img : List ℕ) → check_of img ≡ accepting k d f n → (name : List ℕ) (type : ℕ)
    → (call_of img (find name type) ≡ came (refused 11 0) [] img) ↔ (is_legal (layout_of k d) name type ≡ false)
illegal_exactly = types.illegal_exactly

-- Remove is refused as find is, and else empties the slot that find gives.
pub remove_refused : (k : Kind) (d : Density) (f n : ℕ) (img : List ℕ) → check_of img ≡ accepting k d f n → (name : List ℕ) (type : ℕ) (r : Refusal)
    → call_of img (find name type) ≡ came (refused_by r) [] img → call_of img (remove name type) ≡ came (refused_by r) [] img
remove_refused = types.refused_as_found

pub remove_found : (k : Kind) (d : Density) (f n : ℕ) (img : List ℕ) → check_of img ≡ accepting k d f n → (name : List ℕ) (type slot : ℕ)
    → call_of img (find name type) ≡ came (valued slot) [] img → call_of img (remove name type) ≡ came done [] (remove_image (layout_of k d) img slot)
remove_found = types.removed_as_found

-- Put answers 12 at a slot exactly where it holds a file of that name and type.
pub taken_exactly : (k : Kind) (d : Density) (f n : ℕ) (img : List ℕ) → check_of img ≡ accepting k d f n → (name : List ℕ) (type : ℕ) (content : List ℕ) → (length content ≡ 0 → ⊥) → (slot : ℕ)
    → ((call_of img (put name type content)).answer ≡ refused 12 slot) ↔ Holds (layout_of k d) (files_in (layout_of k d) img) name type slot
taken_exactly = types.taken_exactly

-- A file's name may be put in a second type: the put is granted another slot, and on the image that it leaves both files are found, each by its own type.
pub second_type : (k : Kind) (d : Density) (f n : ℕ) (img : List ℕ) → check_of img ≡ accepting k d f n → (slot : ℕ) (file : File) → files_in (layout_of k d) img slot ≡ some file
    → (type : ℕ) → legal_type (layout_of k d) type ≡ true → ((s : ℕ) → Holds (layout_of k d) (files_in (layout_of k d) img) file.name type s → ⊥) → (content : List ℕ) → (length content ≡ 0 → ⊥)
    → blocks_for (length content) ≤ n → (s : ℕ) → s < (layout_of k d).slots → files_in (layout_of k d) img s ≡ none → FoundApart img slot file type content
second_type = types.second_type

-- A remove leaves every file of another type, whatever its name.
pub other_type_stays : (k : Kind) (d : Density) (f n : ℕ) (img : List ℕ) → check_of img ≡ accepting k d f n → (s : ℕ) (file : File) → files_in (layout_of k d) img s ≡ some file
    → (name : List ℕ) (type : ℕ) → (type ≡ file.type → ⊥) → files_in (layout_of k d) (call_of img (remove name type)).state s ≡ some file
other_type_stays = types.other_type_stays

-- Salvage compares the same way: a slot is dropped for 5 exactly where it is used and well formed and a kept lower slot has its name and its type.
pub report_five : (k : Kind) (d : Density) (v : View) (s : ℕ) → (report_of (layout_of k d) v s ≡ 5) ↔ ((used (v.entry s) ≡ true) × (formed (layout_of k d) (v.entry s) ≡ true) × KeptBelow (layout_of k d) v s)
report_five k d = said.report_five (layout_of k d)

-- ---- Request seven: refusal 16 is dead

-- A content over 16,777,215 bytes needs more blocks than any disk has.
pub long_needs_more : (k : Kind) (d : Density) (size : ℕ) → 16777215 < size → data_blocks (layout_of k d) < blocks_for size
long_needs_more k d = sixteen.long_needs_more (layout_of k d) (layout_right k d)

-- So put's order with 16 in it and the order without it grant and refuse alike, whatever the record.
pub same_orders : (k : Kind) (d : Density) (files : Files) (name : List ℕ) (type : ℕ) (content : List ℕ)
    → judge_put (layout_of k d) files name type content ≡ judge_without (layout_of k d) files name type content
same_orders k d = sixteen.same_orders (layout_of k d) (layout_right k d)

-- They would part where 16,384 blocks are free, and exactly there.
pub alike_exactly : (free : ℕ) → ((size slot : ℕ) → room_for free size slot ≡ room_without free size slot) ↔ (free < 16384)
alike_exactly = sixteen.alike_exactly

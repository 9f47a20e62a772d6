-- What list answers for a slot without a file and for a used one.
-- The 12 bytes are the name and zeros, so their first letters are the name. Assumes nothing.
use Rattle.std.specs.Prelude.{◌≡◌, refl, true, List, ℕ, ◌+◌, ◌-◌, ◌≤◌, ◌<◌, length, take, drop, Ok, Err}
use Rattle.std.proofs.Common.{sym, ap, ◌∙◌, arith}
use Rattle.std.proofs.Math.Option.{Option, none}
use Rattle.laws.specs.Splice.{part}
use Rattle.laws.specs.Padded.{padded}
use Rattle.laws.specs.Lemmas.Padded.{padded_nil, take-padded}
use Rattle.laws.specs.Reader.{bytes, tab}
use Rattle.laws.proofs.Lemmas.Reader.{tab-part}
use Rattle.layout.specs.declared.Layout.{Layout}
use Rattle.layout.specs.Layouts.{slot_offset}
use Rattle.layout.specs.Right.{LayoutRight}
use Rattle.names.specs.Names.{name_of}
use Rattle.names.specs.NameLaws.{length-name}
use Rattle.view.specs.Disk.{File, used}
use Rattle.laws.specs.Refusals.{refusal_at}
use Rattle.image.specs.Image.{entry_at, view_of, files_in, DiskRules}
use Rattle.image.specs.Lemmas.Entries.{length-area}
use Rattle.record.specs.Record.{file_at, listing}
use Rattle.calls.specs.Answers.{Lists}
use Rattle.calls.specs.Lemmas.Slots.{file-used, file-length, slot_held}

pub lists_none : (img : List ℕ) (w : Option File) → w ≡ none → Lists img (listing img w) (Err (refusal_at 10 0))
lists_none img w e = rw e (record { answer = refl; letters = refl; name = sym (padded_nil 12) })

-- a part of 16 bytes that was lent by its end
pub lent-area : (img : List ℕ) (at : ℕ) → at + 16 ≤ length img → take (at + 16 - at) (drop at img) ≡ tab (bytes img) at 16
unfolding part
lent-area img at h = let e : at + 16 - at ≡ 16 = omega arith in rw e (sym (tab-part img at 16 h))

module _ (l : Layout) (right : LayoutRight l) (img : List ℕ) (rules : DiskRules l img) (s : ℕ) (inside : s < l.slots)
    (here : used ((view_of l (bytes img)).entry s) ≡ true) where
  pub lists_file : {letter size : ℕ} {name : List ℕ} → letter ≡ ((view_of l (bytes img)).entry s).type → size ≡ ((view_of l (bytes img)).entry s).size
      → name ≡ padded (name_of l ((view_of l (bytes img)).entry s).area) 12
      → Lists img (listing img (file_at l (files_in l img) s)) (Ok (record { letters = l.letters; letter = letter; length = size; name = name }))
  lists_file t z n =
      let given = name_of l ((view_of l (bytes img)).entry s).area in
      let long : length given ≡ l.letters = length-name l right ((view_of l (bytes img)).entry s).area (length-area (bytes img) (slot_offset l s)) in
      let front : take l.letters (padded given 12) ≡ given = ap (λ (k : ℕ). take k (padded given 12)) (sym long) ∙ take-padded given 12 in
      rw (file-used l img s inside here) (record {
        answer = rw (t, z, n, front, file-length l img s right rules inside here) refl;
        letters = sym long;
        name = n;
      })

  -- the name's area as it is lent
  pub area-lent : take (slot_offset l s + 16 - slot_offset l s) (drop (slot_offset l s) img) ≡ ((view_of l (bytes img)).entry s).area
  unfolding entry_at
  area-lent = lent-area img (slot_offset l s) (omega (arith, slot_held l img s right rules inside))

-- A refusal, and what a call comes to that answers a count and fills a lent output. Assumes nothing.
use Rattle.std.specs.Prelude.{◌≡◌, List, ℕ, ◌≤◌, None, Some, Err, eqb, Result}
use Rattle.laws.specs.declared.Refusal.{Refusal}
use Rattle.laws.specs.Scan.{Lowest}
use Rattle.laws.specs.declared.Refusal.TheVariants.{WrongLength, UnknownKind, SystemBlock, MalformedSlot, RepeatedName, AstrayChain, MiscountedChain, SharedBlock, StrayBlock, NoFile, IllegalName, NameTaken, EmptyContent, DirectoryFull, DiskFull, ContentTooLong, OffsetPastEnd, BadSample, WordOutside, BadProgram, OutputTooShort}
use Rattle.laws.specs.Truth.{pick}

-- The number of each refusal (document 01, "The numbers given back").
abbrev pub number_of : Refusal → ℕ
number_of WrongLength = 1
number_of UnknownKind = 2
number_of (SystemBlock place) = 3
number_of (MalformedSlot place) = 4
number_of (RepeatedName place) = 5
number_of (AstrayChain place) = 6
number_of (MiscountedChain place) = 7
number_of (SharedBlock place) = 8
number_of (StrayBlock place) = 9
number_of NoFile = 10
number_of IllegalName = 11
number_of (NameTaken place) = 12
number_of EmptyContent = 13
number_of DirectoryFull = 14
number_of DiskFull = 15
number_of ContentTooLong = 16
number_of OffsetPastEnd = 17
number_of (BadSample place) = 18
number_of (WordOutside place) = 19
number_of (BadProgram place) = 20
number_of OutputTooShort = 21

-- Its place, 0 where it has none.
abbrev pub place_of : Refusal → ℕ
place_of WrongLength = 0
place_of UnknownKind = 0
place_of (SystemBlock place) = place
place_of (MalformedSlot place) = place
place_of (RepeatedName place) = place
place_of (AstrayChain place) = place
place_of (MiscountedChain place) = place
place_of (SharedBlock place) = place
place_of (StrayBlock place) = place
place_of NoFile = 0
place_of IllegalName = 0
place_of (NameTaken place) = place
place_of EmptyContent = 0
place_of DirectoryFull = 0
place_of DiskFull = 0
place_of ContentTooLong = 0
place_of OffsetPastEnd = 0
place_of (BadSample place) = place
place_of (WordOutside place) = place
place_of (BadProgram place) = place
place_of OutputTooShort = 0

-- The refusal of a number at a place, for the numbers from 1 to 21; 0 stands for the place of one that has none.
abbrev pub refusal_at : ℕ → ℕ → Refusal
refusal_at number place =
    pick (eqb number 1) WrongLength
    (pick (eqb number 2) UnknownKind
    (pick (eqb number 3) (SystemBlock place)
    (pick (eqb number 4) (MalformedSlot place)
    (pick (eqb number 5) (RepeatedName place)
    (pick (eqb number 6) (AstrayChain place)
    (pick (eqb number 7) (MiscountedChain place)
    (pick (eqb number 8) (SharedBlock place)
    (pick (eqb number 9) (StrayBlock place)
    (pick (eqb number 10) NoFile
    (pick (eqb number 11) IllegalName
    (pick (eqb number 12) (NameTaken place)
    (pick (eqb number 13) EmptyContent
    (pick (eqb number 14) DirectoryFull
    (pick (eqb number 15) DiskFull
    (pick (eqb number 16) ContentTooLong
    (pick (eqb number 17) OffsetPastEnd
    (pick (eqb number 18) (BadSample place)
    (pick (eqb number 19) (WordOutside place)
    (pick (eqb number 20) (BadProgram place)
    OutputTooShort)))))))))))))))))))

-- What a call answers that gives a count.
abbrev pub Counted : Type 0
Counted = Result ℕ Refusal

-- What a call answers, and what the lent output then holds.
pub record Filled (A : Type 0) : Type 0 where
  pub answer : Counted
  pub output : List A

abbrev pub filled : {A : Type 0} → Counted → List A → Filled A
filled answer output = record { answer = answer; output = output }

-- A refusal keeps the output; without it the call goes on.
abbrev pub unless : {A : Type 0} → ℕ → Lowest → List A → Filled A → Filled A
unless number (Some place) output rest = filled (Err (refusal_at number place)) output
unless number None output rest = rest

-- Where a call is refused, it keeps the output that was lent, and the refusal's number isn't 0.
abbrev pub Keeps : {A : Type 0} → List A → Filled A → Type 0
Keeps output f = (r : Refusal) → f.answer ≡ Err r → (1 ≤ number_of r) × (f.output ≡ output)

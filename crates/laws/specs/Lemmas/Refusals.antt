-- A call that answers a count keeps its output where it is refused.
-- Each test refuses or lets the call go on, and only a call that is done writes. Assumes nothing.
use Rattle.std.specs.Prelude.{◌≡◌, refl, List, ℕ, ◌≤◌, Ok, None, Some, Err, Bool, true, false, eqb}
use Rattle.std.proofs.Common.{sym, arith}
use Rattle.laws.specs.declared.Refusal.{Refusal}
use Rattle.laws.specs.Refusals.{refusal_at, Filled, filled, unless, Keeps, number_of, place_of}
use Rattle.laws.specs.Scan.{Lowest}
use Rattle.laws.specs.declared.Refusal.TheVariants.{WrongLength, UnknownKind, SystemBlock, MalformedSlot, RepeatedName, AstrayChain, MiscountedChain, SharedBlock, StrayBlock, NoFile, IllegalName, NameTaken, EmptyContent, DirectoryFull, DiskFull, ContentTooLong, OffsetPastEnd, BadSample, WordOutside, BadProgram, OutputTooShort}
use Rattle.laws.specs.Truth.{pick}

-- no call is both refused and done
pub refused-done : {r : Refusal} {count : ℕ} → Err r ≡ Ok count → ⊥
refused-done e = let z : ◌≡◌ {A = ℕ} 0 1 = cc in omega arith

-- every refusal has a number from 1 to 21, and is the one of its number at its place
pub numbered : (r : Refusal) → (1 ≤ number_of r) × (number_of r ≤ 21)
numbered WrongLength = (omega arith, omega arith)
numbered UnknownKind = (omega arith, omega arith)
numbered (SystemBlock place) = (omega arith, omega arith)
numbered (MalformedSlot place) = (omega arith, omega arith)
numbered (RepeatedName place) = (omega arith, omega arith)
numbered (AstrayChain place) = (omega arith, omega arith)
numbered (MiscountedChain place) = (omega arith, omega arith)
numbered (SharedBlock place) = (omega arith, omega arith)
numbered (StrayBlock place) = (omega arith, omega arith)
numbered NoFile = (omega arith, omega arith)
numbered IllegalName = (omega arith, omega arith)
numbered (NameTaken place) = (omega arith, omega arith)
numbered EmptyContent = (omega arith, omega arith)
numbered DirectoryFull = (omega arith, omega arith)
numbered DiskFull = (omega arith, omega arith)
numbered ContentTooLong = (omega arith, omega arith)
numbered OffsetPastEnd = (omega arith, omega arith)
numbered (BadSample place) = (omega arith, omega arith)
numbered (WordOutside place) = (omega arith, omega arith)
numbered (BadProgram place) = (omega arith, omega arith)
numbered OutputTooShort = (omega arith, omega arith)

pub refusal_is : (r : Refusal) → refusal_at (number_of r) (place_of r) ≡ r
refusal_is WrongLength = refl
refusal_is UnknownKind = refl
refusal_is (SystemBlock place) = refl
refusal_is (MalformedSlot place) = refl
refusal_is (RepeatedName place) = refl
refusal_is (AstrayChain place) = refl
refusal_is (MiscountedChain place) = refl
refusal_is (SharedBlock place) = refl
refusal_is (StrayBlock place) = refl
refusal_is NoFile = refl
refusal_is IllegalName = refl
refusal_is (NameTaken place) = refl
refusal_is EmptyContent = refl
refusal_is DirectoryFull = refl
refusal_is DiskFull = refl
refusal_is ContentTooLong = refl
refusal_is OffsetPastEnd = refl
refusal_is (BadSample place) = refl
refusal_is (WordOutside place) = refl
refusal_is (BadProgram place) = refl
refusal_is OutputTooShort = refl

-- the place told is no larger than the one given
place_by : {most : ℕ} (b : Bool) (x y : Refusal) → place_of x ≤ most → place_of y ≤ most → place_of (pick b x y) ≤ most
place_by true x y h k = h
place_by false x y h k = k

pub place_most : (number place : ℕ) → place_of (refusal_at number place) ≤ place
place_most number place =
    place_by (eqb number 1) _ _ (omega arith)
    (place_by (eqb number 2) _ _ (omega arith)
    (place_by (eqb number 3) _ _ (omega arith)
    (place_by (eqb number 4) _ _ (omega arith)
    (place_by (eqb number 5) _ _ (omega arith)
    (place_by (eqb number 6) _ _ (omega arith)
    (place_by (eqb number 7) _ _ (omega arith)
    (place_by (eqb number 8) _ _ (omega arith)
    (place_by (eqb number 9) _ _ (omega arith)
    (place_by (eqb number 10) _ _ (omega arith)
    (place_by (eqb number 11) _ _ (omega arith)
    (place_by (eqb number 12) _ _ (omega arith)
    (place_by (eqb number 13) _ _ (omega arith)
    (place_by (eqb number 14) _ _ (omega arith)
    (place_by (eqb number 15) _ _ (omega arith)
    (place_by (eqb number 16) _ _ (omega arith)
    (place_by (eqb number 17) _ _ (omega arith)
    (place_by (eqb number 18) _ _ (omega arith)
    (place_by (eqb number 19) _ _ (omega arith)
    (place_by (eqb number 20) _ _ (omega arith)
    (omega arith))))))))))))))))))))

pub keeps-refused : {A : Type 0} (q : Refusal) (output : List A) → Keeps output (filled (Err q) output)
keeps-refused q output r e = ((numbered r).0, refl)

pub keeps-done : {A : Type 0} (count : ℕ) (output after : List A) → Keeps output (filled (Ok count) after)
keeps-done count output after r e = absurd (refused-done (sym e))

pub keeps-unless : {A : Type 0} (number : ℕ) (fault : Lowest) (output : List A) (rest : Filled A) → Keeps output rest → Keeps output (unless number fault output rest)
keeps-unless number (Some place) output rest k = keeps-refused (refusal_at number place) output
keeps-unless number None output rest k = k

-- Every number that a call answers takes at most three bytes, on any image: refusals, of which none is 0, places, slots, counts and lengths.
-- The refusals are written out, places and slots lie on the disk, and a file is no longer than the data area. Assumes nothing.
use Rattle.std.specs.Prelude.{ℕ, ◌≤◌, ◌<◌}
use Rattle.std.proofs.Math.Option.{Option, none, some}
use Rattle.laws.specs.declared.Refusal.{Refusal}
use Rattle.record.specs.Record.{Answer}
use Rattle.laws.specs.Refusals.{number_of, place_of}

-- Three bytes hold the number.
abbrev pub Small : ℕ → Type 0
Small n = n < 16777216

-- A refusal of document 01's table: none has number 0.
pub record Numbered (r : Refusal) : Type 0 where
  pub some : 1 ≤ number_of r
  pub most : number_of r ≤ 21
  pub place : Small (place_of r)

abbrev pub NumberedIn : Option Refusal → Type 0
NumberedIn none = Unit {0}
NumberedIn (some r) = Numbered r

-- Each number of an answer.
pub record AllSmall (a : Answer) : Type 0 where
  pub refusal : NumberedIn a.refusal
  pub value : Small a.value
  pub free : Small a.free

-- `slots::Table::new` meets its contract: two arrays of zeros hold no slot of any disk.
-- 0 is none. Assumes nothing.
use Rattle.std.proofs.Common.{ℕ}
use Rattle.std.proofs.lemmas.List.{length-replicate}
use Rattle.laws.specs.Lemmas.Padded.{get_or_zeros}
use Rattle.slots.specs.Lemmas.Hashes.{tops_none, lowers_none}
use Rattle.slots.proofs.Table.new.Goals as goal

pub returns : goal.returns
returns c = λ l b. (tops_none l b _ (length-replicate {A = ℕ} 1009 0) (get_or_zeros 1009), lowers_none l b _ (length-replicate {A = ℕ} 512 0))

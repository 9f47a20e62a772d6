-- `calls::accepted::slot_by` meets its contract: the slot found with the keys of the area and the type has both.
-- A slot has the keys exactly if it has the area and the type, since the image's items are bytes. Assumes nothing.
use Rattle.std.proofs.Common.{rules, arith}
use Rattle.calls.specs.Lemmas.Finding.{found_area}
use Rattle.calls.proofs.accepted.slot_by.Goals as goal

pub returns : goal.returns
returns c = found_area _ c.args.image.now _ c.args.letter (λ i. omega (arith, c.shared_slice_known-1.given i)) (search rules) c.of-keys.ensures c.find_keys.ensures

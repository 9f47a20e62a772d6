-- `disk::head_of` meets its contract: the layout of a kind and a density is right, and its system blocks lie in a head of 17,408 bytes.
-- By what each layout meets. Assumes nothing.
use Rattle.disk.specs.Lemmas.Steps.{made_right, first_held}
use Rattle.disk.proofs.head_of.Goals as goal

pub invariant_of-result : goal.invariant_of-result
invariant_of-result c =
    let made = c.layout_of.ensures in
    record { right = made_right c.args.kind c.args.density made; long = first_held c.args.kind c.args.density made c.requires }

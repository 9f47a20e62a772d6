-- `mend::restore_system` meets its contract: setting what remains of the wrong system blocks makes what setting all of them makes, and those set and those to
-- come are all. The blocks ahead still hold what they held. Assumes nothing.
use Rattle.std.proofs.Common.{not, eqb}
use Rattle.laws.specs.Reader.{bytes}
use Rattle.map.specs.Map.{map_at}
use Rattle.mend.specs.Lemmas.Setting.{Setting}
use Rattle.mend.proofs.restore_system.Given as goal

abbrev pub invariant-loop-block : goal.invariant-loop-block
invariant-loop-block l =
    Setting (λ b. not (eqb (map_at (bytes l.initial.image) b) l.layout.reserved)) l.layout.reserved l.initial.image l.image 0 l.block l.layout.system l.changed

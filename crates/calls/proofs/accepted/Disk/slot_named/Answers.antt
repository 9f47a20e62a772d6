-- `calls::accepted::Disk::slot_named` meets its contract: the lowest slot with the name's area and the type is the record's slot of name and type.
-- On a valid disk a used slot has the name exactly if it has the name's area, and an empty slot has no legal type. Assumes nothing.
use Rattle.calls.specs.Accepts.{right_of, rules_of, first_inside}
use Rattle.calls.specs.Lemmas.Finding.{found_named}
use Rattle.laws.specs.Lemmas.Truth.{both_true}
use Rattle.names.specs.Names.{legal_name, legal_type}
use Rattle.calls.proofs.accepted.Disk.slot_named.Goals as goal

pub area_of-area-requires : goal.area_of-area-requires
area_of-area-requires c =
    ((right_of _ _ c.args.self.now.accepted), (both_true (legal_name c.args.self.now.layout c.args.name.now) (legal_type c.args.self.now.layout c.args.letter) c.requires).0)

pub slot_by-requires : goal.slot_by-requires
slot_by-requires c = (right_of _ _ c.args.self.now.accepted, first_inside _ _ c.args.self.now.accepted)

pub returns : goal.returns
returns c =
    found_named c.args.self.now.layout (right_of _ _ c.args.self.now.accepted) c.args.self.now.image.now (rules_of _ _ c.args.self.now.accepted) c.args.name.now c.args.letter c.requires
    c.area_of-area.ensures c.slot_by.ensures

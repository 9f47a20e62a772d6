-- Disks that use the second directory (document 02, request five): what they are known by, what put writes to a slot, and what remove leaves of it.
-- The kind is known by slot 0's type and the density alone; put and remove by what they do to the entry. Assumes nothing.
use Rattle.std.proofs.Math.Path.{◌≡◌}
use Rattle.std.specs.Prelude.{true, ◌↔◌, ◌≤◌, leb}
use Rattle.std.proofs.Common.{le-leb}
use Rattle.laws.specs.Lemmas.Truth.{true_both}
use Rattle.layout.specs.declared.Layout.{Layout}
use Rattle.names.specs.Names.{legal_area, legal_type}
use Rattle.view.specs.Disk.{Entry, formed}
use Rattle.view.specs.Lemmas.Formed.{formed-parts, parts-formed, type_range}

-- ---- a used slot

-- Well formed exactly so: a legal name's area, a type in the layout's range, a length of at least 1, the layout's identity.
pub formed_exactly : (l : Layout) (e : Entry) → (formed l e ≡ true) ↔ ((legal_area l e.area ≡ true) × ((l.least ≤ e.type) × (e.type ≤ l.most)) × (1 ≤ e.size) × (e.identity ≡ l.identity))
unfolding legal_type
formed_exactly l e = (
  λ h. let p = formed-parts l e h in (p.area, type_range l e.type p.type, p.size, p.own),
  λ p. parts-formed l e (record {
    area = p.0;
    type = true_both (leb l.least e.type) (leb e.type l.most) (le-leb l.least e.type p.1.0) (le-leb e.type l.most p.1.1);
    size = p.2;
    own = p.3;
  }),
)

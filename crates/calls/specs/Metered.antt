-- What a page costs (document 02, request three): on an accepted image that is the record's, by its file's length alone; without a page it is nothing.
-- By the check's answer, and the file of the slot. Assumes nothing.
use Rattle.std.specs.Prelude.{List, ℕ, ◌-◌, min, length, Ok, Err}
use Rattle.std.proofs.Math.Option.{Option, none, some}
use Rattle.layout.specs.Layouts.{layout_of}
use Rattle.blocks.specs.Blocks.{blocks_for}
use Rattle.view.specs.Disk.{File}
use Rattle.image.specs.Image.{files_in}
use Rattle.record.specs.Record.{file_at}
use Rattle.rules.specs.Check.{check_of, Checked}
use Rattle.pages.specs.declared.Cost.{Cost}
use Rattle.pages.specs.Cost.{no_cost, cost_of}

-- On the record: the cost of as many bytes as there is room for and the file has left.
abbrev pub page_cost : Option File → ℕ → ℕ → Cost
page_cost none offset room = no_cost
page_cost (some f) offset room = cost_of (blocks_for (length f.content)) offset (min room (length f.content - offset))

-- By the check's answer.
abbrev pub cost_by : Checked → List ℕ → ℕ → ℕ → ℕ → Cost
cost_by (Err r) img slot offset room = no_cost
cost_by (Ok disk) img slot offset room = page_cost (file_at (layout_of disk.kind disk.density) (files_in (layout_of disk.kind disk.density) img) slot) offset room

-- On any bytes: nothing where the image is refused.
unfoldable pub cost_in : List ℕ → ℕ → ℕ → ℕ → Cost
cost_in img slot offset room = cost_by (check_of img) img slot offset room

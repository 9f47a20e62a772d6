-- Which blocks hold a slot's file, on any bytes: the check first, then 10 for a slot without a file, then 21 for an output that is shorter than what
-- is due (document 01, "The numbers given back"). Assumes nothing.
use Rattle.std.specs.Prelude.{List, [], ◌∷◌, ℕ, ltb, length, Ok, Err}
use Rattle.laws.specs.Truth.{pick}
use Rattle.laws.specs.Refusals.{refusal_at, Filled, filled}
use Rattle.laws.specs.Splice.{splice}
use Rattle.laws.specs.Reader.{bytes}
use Rattle.layout.specs.declared.Layout.{Layout}
use Rattle.layout.specs.Layouts.{layout_of}
use Rattle.view.specs.Disk.{chain_of}
use Rattle.image.specs.Image.{view_of}
use Rattle.rules.specs.Check.{check_of, Checked}

-- The blocks of a slot's file, none if there is none.
unfoldable pub file_blocks : Layout → List ℕ → ℕ → List ℕ
unfolding chain_of
file_blocks l img s = pick (ltb s l.slots) (chain_of (view_of l (bytes img)) s) []

-- By the blocks there are: 10 for none, 21 for an output without room for all, else they stand at its front and what lies past them is kept.
abbrev pub storing : List ℕ → List ℕ → Filled ℕ
storing [] out = filled (Err (refusal_at 10 0)) out
storing (b ∷ bs) out = pick (ltb (length out) (length (b ∷ bs))) (filled (Err (refusal_at 21 0)) out) (filled (Ok (length (b ∷ bs))) (splice out 0 (b ∷ bs)))

-- By the check's answer: its refusal, or the slot's blocks.
abbrev pub blocks_by : Checked → List ℕ → ℕ → List ℕ → Filled ℕ
blocks_by (Err r) img s out = filled (Err r) out
blocks_by (Ok disk) img s out = storing (file_blocks (layout_of disk.kind disk.density) img s) out

-- The call on any bytes.
unfoldable pub blocks_of : List ℕ → ℕ → List ℕ → Filled ℕ
unfolding file_blocks splice
blocks_of img s out = blocks_by (check_of img) img s out

-- The record knows a file by its name and its type (document 02, request six): where no name stands twice within one type, each file is found by its own.
-- The slot found is the lowest with the name and the type, and no other has both. Assumes nothing.
use Rattle.std.specs.Prelude.{◌≡◌, List, ℕ}
use Rattle.std.proofs.Math.Option.{some}
use Rattle.layout.specs.declared.Layout.{Layout}
use Rattle.names.specs.Names.{capitals}
use Rattle.view.specs.Disk.{File}
use Rattle.record.specs.Record.{Files}

-- A slot holds a file with the name, in whatever spelling it is given, and with the type.
abbrev pub Holds : Layout → Files → List ℕ → ℕ → ℕ → Type 0
Holds l files name type slot = (file : File) × (files slot ≡ some file) × (capitals l name ≡ file.name) × (type ≡ file.type)

-- No two slots hold files of one name and one type.
abbrev pub Apart : Files → Type 0
Apart files = (s t : ℕ) (f g : File) → files s ≡ some f → files t ≡ some g → f.name ≡ g.name → f.type ≡ g.type → s ≡ t

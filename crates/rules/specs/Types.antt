-- A file is known by its name and its type (document 02, request six): on an accepted disk find, put and remove go by both, so one name may stand in several
-- types, and each file of it is found, in the way of a put, and removed by its own type alone.
-- By cases on the record's judgement; a name and a type stand in one slot. Assumes nothing.
use Rattle.std.specs.Prelude.{◌≡◌, List, [], ℕ}
use Rattle.view.specs.Disk.{File}
use Rattle.record.specs.Record.{find, put, valued}
use Rattle.rules.specs.Check.{came, call_of}

-- A name that was put in a second type: the put is granted another slot, and on the image that it leaves each file is found by its own type.
pub record FoundApart (img : List ℕ) (slot : ℕ) (file : File) (type : ℕ) (content : List ℕ) : Type 0 where
  pub place : ℕ
  pub granted : (call_of img (put file.name type content)).answer ≡ valued place
  pub apart : place ≡ slot → ⊥
  pub old : let after = (call_of img (put file.name type content)).state in call_of after (find file.name file.type) ≡ came (valued slot) [] after
  pub new : let after = (call_of img (put file.name type content)).state in call_of after (find file.name type) ≡ came (valued place) [] after

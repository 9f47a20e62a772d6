-- A disk mended as the run says is valid, whatever it was; a kept slot shows the file that its own chain holds, any other slot none; and a valid
-- disk keeps all its slots. The kept slots pass the check's own tests, and only blocks off their chains change in the map. Assumes nothing.
use Rattle.std.specs.Prelude.{◌≡◌}
use Prim.Native.Nat.{ℕ, ◌<◌}
use Rattle.laws.specs.Member.{In}
use Rattle.layout.specs.declared.Layout.{Layout}
use Rattle.map.specs.Map.{Data}
use Rattle.view.specs.Disk.{View, owned}
use Rattle.salvage.specs.Salvage.{survivors}

-- w is v mended: the kept slots, the map values of their chains, 0 at every other data block, the system values, and all data blocks.
pub record Mended (l : Layout) (v w : View) : Type 0 where
  pub entry : (s : ℕ) → s < l.slots → w.entry s ≡ (survivors l v).entry s
  pub system : (k : ℕ) → k < l.system → w.map k ≡ l.reserved
  pub chained : (b : ℕ) → Data l b → In b (owned (survivors l v) l.slots) → w.map b ≡ v.map b
  pub freed : (b : ℕ) → Data l b → (In b (owned (survivors l v) l.slots) → ⊥) → w.map b ≡ 0
  pub block : (b : ℕ) → Data l b → w.block b ≡ v.block b

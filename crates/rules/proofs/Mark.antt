-- The end mark on an accepted disk (document 01, "The disk"; its value on S1000 disks is document 02's, request one): the last block of every file holds it, in
-- reading and after every call; and no data block holds a value that is neither 0, nor a link, nor the mark. By the disk rules. Assumes nothing.
use Rattle.std.specs.Prelude.{◌≡◌, List, ◌⊎◌, ℕ}
use Rattle.std.proofs.Common.{inl, inr}
use Rattle.std.proofs.Math.Option.{some}
use Rattle.std.proofs.Math.Decide.{ℕ_discrete}
use Rattle.laws.specs.Reader.{bytes}
use Rattle.layout.specs.declared.Kind.{Kind}
use Rattle.layout.specs.declared.Density.{Density}
use Rattle.layout.specs.Layouts.{layout_of}
use Rattle.blocks.specs.Blocks.{links_for}
use Rattle.map.specs.Map.{map_at, Data}
use Rattle.map.specs.Values.{Other, chain-value, last_value}
use Rattle.view.specs.Disk.{File, entry_chain}
use Rattle.image.specs.Image.{view_of, files_in}
use Rattle.record.specs.Record.{Call}
use Rattle.rules.specs.Check.{check_of, call_of, accepting}
use Rattle.rules.proofs.Accepts.{accepted-rules}
use Rattle.rules.specs.Demand.{file-used}
use Rattle.rules.proofs.Demand.{rules-after}
use Rattle.rules.specs.Mark.{last_block}

-- After any call on an accepted image, the check and other calls that change nothing included, the last block of every file holds the end mark.
pub ends_on_mark : (k : Kind) (d : Density) (f n : ℕ) (img : List ℕ) → check_of img ≡ accepting k d f n → (c : Call) (slot : ℕ) (file : File)
    → let after = (call_of img c).state in files_in (layout_of k d) after slot ≡ some file → map_at (bytes after) (last_block (layout_of k d) after slot) ≡ (layout_of k d).mark
unfolding entry_chain
ends_on_mark k d f n img e c slot file there =
    let l = layout_of k d in
    let after = (call_of img c).state in
    let entry = (view_of l (bytes after)).entry slot in
    let rules = rules-after k d img c (accepted-rules k d f n img e) in
    last_value l (map_at (bytes after)) (links_for entry.size) entry.start (rules.valid.linked slot (file-used l after slot file there))

-- A data block of an accepted image that holds neither a link nor the end mark is free.
pub no_other-value : (k : Kind) (d : Density) (f n : ℕ) (img : List ℕ) → check_of img ≡ accepting k d f n → (block : ℕ) → Data (layout_of k d) block
    → Other (layout_of k d) (map_at (bytes img) block) → map_at (bytes img) block ≡ 0
unfolding entry_chain
no_other-value k d f n img e block inside other = go (ℕ_discrete (map_at (bytes img) block) 0)
  where
    neither : Data (layout_of k d) (map_at (bytes img) block) ⊎ (map_at (bytes img) block ≡ (layout_of k d).mark) → ⊥
    neither (inl h) = other.0 h
    neither (inr h) = other.1 h

    go : Dec (map_at (bytes img) block ≡ 0) → map_at (bytes img) block ≡ 0
    go (yes p) = p
    go (no p) =
        let l = layout_of k d in
        let valid = (accepted-rules k d f n img e).valid in
        let held = valid.owner block inside p in
        let entry = (view_of l (bytes img)).entry held.0 in
        absurd (neither (chain-value l (map_at (bytes img)) (links_for entry.size) entry.start block (valid.linked held.0 held.1.0) held.1.1))

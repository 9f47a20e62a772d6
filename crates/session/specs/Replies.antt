-- A reply's bytes hold the answer whole: read back, they are the reply that was written, so cutting its numbers to three bytes loses nothing.
-- No call answers a number that takes more (`call_small`, rules/proofs/Small.antt). Assumes nothing.
use Rattle.std.specs.Prelude.{List, ℕ, eqb, get_or, drop}
use Rattle.laws.specs.Reader.{bytes}
use Rattle.blocks.specs.Numbers.{number}
use Rattle.session.specs.declared.Reply.{Reply}

-- A reply as whoever made the script reads it.
unfoldable pub read_reply : List ℕ → Reply
unfolding number
read_reply b = record { number = number 3 (bytes b) 0; value = number 3 (bytes b) 3; letter = get_or b 6 0; end = eqb (get_or b 7 0) 1; name = drop 8 b }

-- `rows::Header::long` meets its contract: two bytes and the word after them are a number of four.
-- By the law of a number one byte wider, twice. Assumes nothing.
use Rattle.laws.specs.Reader.{bytes}
use Rattle.blocks.specs.Lemmas.Numbers.{number_next}
use Rattle.rows.specs.Lemmas.Arms.{next_two}
use Rattle.rows.proofs.Header.long.Goals as goal

pub returns : goal.returns
returns c =
    let b = bytes c.args.self.content.now in
    number_next 3 b _ c.byte.ensures.0 c.byte.ensures.1 (next_two b _ c.byte-2.ensures.0 c.byte-2.ensures.1 c.word.ensures)

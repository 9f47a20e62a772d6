-- `rows::Header::word` meets its contract: two bytes are a number, the lower first.
-- By the law of a number one byte wider. Assumes nothing.
use Rattle.laws.specs.Reader.{bytes}
use Rattle.blocks.specs.Lemmas.Numbers.{number-one, number_next}
use Rattle.rows.proofs.Header.word.Goals as goal

pub returns : goal.returns
returns c =
    let b = bytes c.args.self.content.now in
    number_next 1 b _ c.byte.ensures.0 c.byte.ensures.1 (number-one b _ c.byte-2.ensures.0 c.byte-2.ensures.1)

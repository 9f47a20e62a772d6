-- `rows::Header::number` meets its contract: each width reads its own number of bytes.
-- By the width's cases. Assumes nothing.
use Rattle.std.proofs.Common.{arith}
use Rattle.rows.specs.Lemmas.Arms.{read_by}
use Rattle.blocks.specs.Lemmas.Numbers.{number-one}
use Rattle.rows.proofs.Header.number.Goals as goal

pub returns-in-One : goal.returns-in-One
returns-in-One c = read_by _ _ c.in-One.is (number-one _ _ c.byte.ensures.0 c.byte.ensures.1) (omega arith)

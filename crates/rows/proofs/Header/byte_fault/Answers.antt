-- `rows::Header::byte_fault` meets its contract: the byte's place where it isn't legal.
-- A run of one number: by what was read of it and the test. Assumes nothing.
use Rattle.laws.specs.Reader.{bytes}
use Rattle.blocks.specs.Lemmas.Numbers.{number-one}
use Rattle.rows.specs.Lemmas.Arms.{byte_stop, byte_clean}
use Rattle.rows.proofs.Header.byte_fault.Goals as goal

pub returns-then-is_legal : goal.returns-then-is_legal
returns-then-is_legal c = byte_clean _ _ _ _ c.from-place.ensures (number-one (bytes c.args.self.content.now) _ c.byte.ensures.0 c.byte.ensures.1).value c.is_legal.ensures c.if-is_legal.true

pub returns-else-is_legal : goal.returns-else-is_legal
returns-else-is_legal c = byte_stop _ _ _ _ c.from-place.ensures (number-one (bytes c.args.self.content.now) _ c.byte.ensures.0 c.byte.ensures.1).value c.is_legal.ensures c.if-is_legal.false

-- Each table's rows stand in order within their header, so that the place its check gives is the lowest failing offset.
-- By computation on each table. Assumes nothing.
use Rattle.std.specs.Prelude.{◌≡◌, refl, true}
use Rattle.rows.specs.Failing.{in_order}
use Rattle.headers.specs.declared.Table.{Table}
use Rattle.headers.specs.declared.Table.TheVariants.{Sample900, Sample1000, Program, Keygroup}
use Rattle.headers.specs.Tables.{rows_of, header_size}

pub tables_in_order : (table : Table) → in_order 0 (header_size table) (rows_of table) ≡ true
unfolding rows_of in_order
tables_in_order Sample900 = refl
tables_in_order Sample1000 = refl
tables_in_order Program = refl
tables_in_order Keygroup = refl

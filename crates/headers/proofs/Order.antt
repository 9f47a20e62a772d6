-- Each table's rows stand in order within their header, so that the place its check gives is the lowest failing offset.
-- By computation on each table. Assumes nothing.
use Rattle.std.specs.Prelude.{◌≡◌, List, ℕ, Some}
use Rattle.rows.specs.Rows.{rows_fault}
use Rattle.rows.specs.Failing.{Failing, Least, lowest_failing}
use Rattle.headers.specs.declared.Table.{Table}
use Rattle.headers.specs.Tables.{rows_of, header_size}
use Rattle.headers.specs.Order.{tables_in_order}

-- The place that a header's check gives is the lowest at which one of its rows is broken.
pub fault_lowest : (table : Table) (header : List ℕ) (base place : ℕ) → rows_fault header base (rows_of table) ≡ Some place → Least (Failing header base (rows_of table)) place
fault_lowest table header base place e = lowest_failing header base (rows_of table) 0 (header_size table) place (tables_in_order table) e

-- Document 01's table holds over the map of the example's bytes.
use mathlib.Core.Path.{sym, subst}
use Rattle.table.specs.Example.{the_segments}
use Rattle.table.specs.Table.{Table}
use Rattle.table.proofs.TheMap.{segments_is}
use Rattle.table.proofs.TableRows.{rows}

pub table : Table the_segments
table = subst Table (sym segments_is) rows

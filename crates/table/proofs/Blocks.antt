-- The rows of blocks hold over the map of the example's bytes.
use mathlib.Core.Path.{sym, subst}
use Rattle.table.specs.Example.{the_segments}
use Rattle.table.specs.Blocks.{Blocks}
use Rattle.table.proofs.TheMap.{segments_is}
use Rattle.table.proofs.BlocksRows.{rows}

pub blocks : Blocks the_segments
blocks = subst Blocks (sym segments_is) rows

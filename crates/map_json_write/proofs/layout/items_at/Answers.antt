use native.Mathlib.Omega.{arith}
use Rattle.map_json_write.proofs.LayoutLaws.{list_written, rest_room}
use borrow.Author.Rules.{rules}
use Rattle.map_json_write.proofs.layout.items_at.Goals as goal

pub rest_at-requires : goal.rest_at-requires
rest_at-requires c = (omega arith, search rest_room)

pub returns : goal.returns
returns c = (search list_written, search rules)

use Rattle.map_json_segments.proofs.ListLaws.{list_short, list_full}
use Rattle.map_json_segments.proofs.list.list_into.Goals as goal

pub returns-then-map : goal.returns-then-map
returns-then-map c = search list_short

pub returns : goal.returns
returns c = search list_full

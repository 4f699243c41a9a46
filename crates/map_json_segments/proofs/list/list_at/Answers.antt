use Rattle.map_json_segments.proofs.ListLaws.{list_none, list_some}
use Rattle.map_json_segments.proofs.list.list_at.Goals as goal

pub returns-then-get_or-ne91 : goal.returns-then-get_or-ne91
returns-then-get_or-ne91 c = search list_none

pub returns : goal.returns
returns c = search list_some

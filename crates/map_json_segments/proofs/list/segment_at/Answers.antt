use Rattle.map_json_segments.proofs.ListLaws.{segment_in_lem, segment_out}
use Rattle.map_json_segments.proofs.list.segment_at.Goals as goal

pub returns-then-n-lt1024 : goal.returns-then-n-lt1024
returns-then-n-lt1024 c = search segment_in_lem

pub returns-else-n-lt1024 : goal.returns-else-n-lt1024
returns-else-n-lt1024 c = search segment_out

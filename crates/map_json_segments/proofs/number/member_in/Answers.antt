use Rattle.map_json_segments.proofs.SegmentLaws.{member_some}
use Rattle.map_json_segments.proofs.number.member_in.Goals as goal

pub returns : goal.returns
returns c = search member_some

use Rattle.spec_json.proofs.json.StringLaws.{point_most}
use Rattle.json_strings.proofs.piece.escape_piece.Goals as goal

pub encoded-requires : goal.encoded-requires
encoded-requires c = search point_most

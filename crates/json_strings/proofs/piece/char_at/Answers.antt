use Rattle.spec_json.proofs.json.StringLaws.{plain_after, plain_placed}
use Rattle.json_strings.proofs.piece.char_at.Goals as goal

pub returns-then-get_or-ne92 : goal.returns-then-get_or-ne92
returns-then-get_or-ne92 c = (search plain_after, search plain_placed)

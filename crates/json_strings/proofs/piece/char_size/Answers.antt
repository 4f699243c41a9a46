use Rattle.spec_json.proofs.json.StringLaws.{plain_size}
use Rattle.json_strings.proofs.piece.char_size.Goals as goal

pub returns-else-get_or-eq92 : goal.returns-else-get_or-eq92
returns-else-get_or-eq92 c = search plain_size

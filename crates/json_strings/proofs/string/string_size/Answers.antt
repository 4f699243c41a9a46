use Rattle.spec_json.proofs.json.CharsLaws.{size_is}
use Rattle.json_strings.proofs.string.string_size.Goals as goal

pub returns : goal.returns
returns c = search size_is

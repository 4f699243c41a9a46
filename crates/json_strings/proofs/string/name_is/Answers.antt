use Rattle.spec_json.proofs.json.CharsLaws.{name_is}
use Rattle.json_strings.proofs.string.name_is.Goals as goal

pub returns : goal.returns
returns c = search name_is

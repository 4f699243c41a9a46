use Rattle.spec_text.proofs.pattern.Laws.{rest_found}
use Rattle.pattern.proofs.pattern.past.Goals as goal

pub returns : goal.returns
returns c = search rest_found

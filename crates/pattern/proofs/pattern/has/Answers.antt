use Rattle.spec_text.proofs.pattern.Laws.{has_found}
use Rattle.pattern.proofs.pattern.has.Goals as goal

pub returns : goal.returns
returns c = search has_found

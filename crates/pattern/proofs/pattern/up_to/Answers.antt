use Rattle.spec_text.proofs.pattern.Laws.{front_found}
use Rattle.pattern.proofs.pattern.up_to.Goals as goal

pub returns : goal.returns
returns c = search front_found

use Rattle.spec_ask.proofs.ask_rough.Answers.{is_kept}
use Rattle.ask_rough.proofs.judging.kept_at.Goals as goal

pub returns : goal.returns
returns c = search is_kept depth 12

use Rattle.c_api.proofs.Judgement.{number_told, place_told}
use Rattle.c_api.proofs.questions.retimer_rough.Goals as goal

pub returns-clause-value : goal.returns-clause-value
returns-clause-value c = search number_told

pub returns-clause-judgement_after : goal.returns-clause-judgement_after
returns-clause-judgement_after c = search place_told

use Rattle.spec_base.proofs.base.Laws.{calls}
use Rattle.files_why.specs.Question.{kind_of}
use Rattle.files_why.proofs.question.kind_of.Goals as goal

pub returns-then-equals : goal.returns-then-equals
unfolding kind_of
returns-then-equals c = search calls depth 12 fits 20000

pub returns-then-equals-2 : goal.returns-then-equals-2
unfolding kind_of
returns-then-equals-2 c = search calls depth 12 fits 20000

pub returns-then-equals-3 : goal.returns-then-equals-3
unfolding kind_of
returns-then-equals-3 c = search calls depth 12 fits 20000

pub returns-else-equals-3 : goal.returns-else-equals-3
unfolding kind_of
returns-else-equals-3 c = search calls depth 12 fits 20000

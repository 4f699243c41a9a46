use Rattle.files_why.proofs.QuestionLaws.{kind_unread, line_read}
use Rattle.files_why.proofs.question.asked.Goals as goal

pub returns-in_default : goal.returns-in_default
returns-in_default c = search kind_unread depth 12

pub returns : goal.returns
returns c = search line_read depth 14

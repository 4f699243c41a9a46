use Rattle.segment.proofs.RowLaws.{excess_alone}
use Rattle.segment.proofs.segment.excess.Goals as goal

pub returns-clause-result_value : goal.returns-clause-result_value
returns-clause-result_value c = search excess_alone

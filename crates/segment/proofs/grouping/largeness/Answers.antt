use Rattle.segment.proofs.RowLaws.{largeness_alone}
use Rattle.segment.proofs.grouping.largeness.Goals as goal

pub returns-clause-result_value : goal.returns-clause-result_value
returns-clause-result_value c = search largeness_alone

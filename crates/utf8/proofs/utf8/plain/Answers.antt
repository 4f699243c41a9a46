use Rattle.utf8.proofs.StepLaws.{plain_on}
use Rattle.utf8.proofs.utf8.plain.Goals as goal

pub loop-b-preserved : goal.loop-b-preserved
loop-b-preserved c = search plain_on

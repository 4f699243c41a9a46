use Rattle.text.proofs.StepLaws.{free_on}
use Rattle.text.proofs.line.lf_free.Goals as goal

pub loop-b-preserved : goal.loop-b-preserved
loop-b-preserved c = search free_on

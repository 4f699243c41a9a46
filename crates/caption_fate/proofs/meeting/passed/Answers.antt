use Rattle.caption_fate.proofs.PassLaws.{passing_start, passing_less, passing_again}
use Rattle.caption_fate.proofs.meeting.passed.Goals as goal

pub loop-t-init : goal.loop-t-init
loop-t-init c = search passing_start

pub loop-t-smaller : goal.loop-t-smaller
loop-t-smaller c = search passing_less depth 12

pub loop-t-preserved : goal.loop-t-preserved
loop-t-preserved c = search passing_again depth 12

use Rattle.segmap.proofs.MilestoneLaws.{milestones_start}
use Rattle.segmap.proofs.sums.at_first.Goals as goal

pub returns : goal.returns
returns c = search milestones_start

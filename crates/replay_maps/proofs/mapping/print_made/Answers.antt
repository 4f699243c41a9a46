use Rattle.replay_maps.proofs.MadeLaws.{answer_printed}
use Rattle.replay_maps.proofs.mapping.print_made.Goals as goal

pub returns-clause-value : goal.returns-clause-value
returns-clause-value g c = answer_printed _ _ _ _ _ _ c.work_lent-n.ensures.0 c.work_lent-n.ensures.1 c.print_map_of.ensures.value

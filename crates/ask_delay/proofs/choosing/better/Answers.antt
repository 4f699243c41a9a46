use Rattle.ask_delay.proofs.ChoiceLaws.{better_yes, better_no}
use Rattle.ask_delay.proofs.choosing.better.Goals as goal

pub returns-then-loss-best : goal.returns-then-loss-best
returns-then-loss-best c = search better_yes

pub returns-else-loss-best : goal.returns-else-loss-best
returns-else-loss-best c = search better_no

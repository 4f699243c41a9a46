use Rattle.spec_machine.proofs.session_counts.GoodLines.{good_front}
use Rattle.session_text.proofs.lining.lines_good.Goals as goal

pub returns-then-kind-ne0 : goal.returns-then-kind-ne0
returns-then-kind-ne0 c = search good_front

use Rattle.spec_session.proofs.session.CallLaws.{begin_is}
use Rattle.session.proofs.calling.begin.Goals as goal

pub returns : goal.returns
returns c = search begin_is

use Rattle.spec_session.proofs.session.CallLaws.{ended_is}
use Rattle.session.proofs.calling.over.Goals as goal

pub returns : goal.returns
returns c = let A = c.args in ended_is A.config A.taken A.«end» _ c.end_session.ensures

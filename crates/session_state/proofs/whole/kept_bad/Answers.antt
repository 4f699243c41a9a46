use Rattle.spec_session.proofs.session_state.ForeignLaws.{kept_ass}
use Rattle.session_state.proofs.whole.kept_bad.Goals as goal

pub returns-then-head-eq0 : goal.returns-then-head-eq0
returns-then-head-eq0 c = search kept_ass

use Rattle.spec_parking.proofs.session_bytes.CallLaws.{up_refused, call_made}
use Rattle.session_bytes.proofs.calling.finish.Goals as goal

pub returns-then-up-ne0 : goal.returns-then-up-ne0
returns-then-up-ne0 c = search up_refused

pub returns : goal.returns
returns c = search call_made

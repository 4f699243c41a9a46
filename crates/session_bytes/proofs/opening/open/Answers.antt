use Rattle.spec_parking.proofs.session_bytes.CallLaws.{number_refused, bytes_refused, number_kept, bytes_kept}
use Rattle.session_bytes.proofs.opening.open.Goals as goal

pub returns-then-opened-ne0-clause-value : goal.returns-then-opened-ne0-clause-value
returns-then-opened-ne0-clause-value c = search number_refused

pub returns-then-opened-ne0-clause-bytes_after : goal.returns-then-opened-ne0-clause-bytes_after
returns-then-opened-ne0-clause-bytes_after c = search bytes_refused

pub returns-clause-value : goal.returns-clause-value
returns-clause-value c = rw c.number.ensures (search number_kept)

pub returns-clause-bytes_after : goal.returns-clause-bytes_after
returns-clause-bytes_after c = search bytes_kept

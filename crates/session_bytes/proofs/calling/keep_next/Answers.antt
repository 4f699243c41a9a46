use mathlib.Core.Path.{◌≡◌, ap}
use mathlib.Core.Bool.{not, true, false}
use borrow.Author.Tests.{not-true, not-false}
use Rattle.spec_parking.proofs.session_bytes.CallLaws.{next_kept, next_refused, next_nothing}
use Rattle.session_bytes.proofs.calling.keep_next.Goals as goal
use Rattle.session_bytes.proofs.calling.keep_next.Goals.{else-not-nothing-via-then-not-nothing+else-not-refuses_call, else-not-nothing-via-else-not-nothing}

pub returns-then-not-refuses_call : goal.returns-then-not-refuses_call
returns-then-not-refuses_call c =
    let t : c.refuses_call.result ≡ false = not-true _ (ap not c.if-not-refuses_call.true) in
    search next_kept

pub returns-else-not-nothing : goal.returns-else-not-nothing
returns-else-not-nothing c = elim c.else-not-nothing.branch [
  | else-not-nothing-via-then-not-nothing+else-not-refuses_call w ↦ let t : w.refuses_call.result ≡ true = not-false _ (ap not w.if-not-refuses_call.false) in search next_refused
  | else-not-nothing-via-else-not-nothing w ↦ search next_nothing
]

use mathlib.Core.Path.{◌≡◌, ap}
use mathlib.Core.Bool.{not, true, false}
use borrow.Author.Tests.{not-true, not-false}
use Rattle.spec_parking.proofs.session_bytes.FeedLaws.{kept_new, kept_refused, kept_nothing}
use Rattle.session_bytes.proofs.calling.keep_text.Goals as goal
use Rattle.session_bytes.proofs.calling.keep_text.Goals.{else-not-nothing-via-then-not-nothing+else-not-refuses_call, else-not-nothing-via-else-not-nothing}

pub returns-then-not-refuses_call : goal.returns-then-not-refuses_call
returns-then-not-refuses_call c =
    let t : c.refuses_call.result ≡ false = not-true _ (ap not c.if-not-refuses_call.true) in
    search kept_new

pub returns-else-not-nothing : goal.returns-else-not-nothing
returns-else-not-nothing c = elim c.else-not-nothing.branch [
  | else-not-nothing-via-then-not-nothing+else-not-refuses_call w ↦ let t : w.refuses_call.result ≡ true = not-false _ (ap not w.if-not-refuses_call.false) in search kept_refused
  | else-not-nothing-via-else-not-nothing w ↦ search kept_nothing
]

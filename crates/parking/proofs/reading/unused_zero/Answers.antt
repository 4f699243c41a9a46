use mathlib.Core.Path.{◌≡◌, ap}
use mathlib.Core.Bool.{not, true, false}
use borrow.Author.Tests.{not-true, not-false}
use Rattle.spec_parking.proofs.parking.ReadLaws.{unused_live, unused_ended, unused_no}
use Rattle.parking.proofs.reading.unused_zero.Goals as goal

pub returns-then-not-all_zero : goal.returns-then-not-all_zero
returns-then-not-all_zero c = let e : c.all_zero.result ≡ false = not-true _ (ap not c.if-not-all_zero.true) in search unused_no

pub returns-then-word-eq0 : goal.returns-then-word-eq0
returns-then-word-eq0 c = let e : c.all_zero.result ≡ true = not-false _ (ap not c.if-not-all_zero.false) in search unused_live

pub returns-else-word-eq0 : goal.returns-else-word-eq0
returns-else-word-eq0 c = let e : c.all_zero.result ≡ true = not-false _ (ap not c.if-not-all_zero.false) in search unused_ended

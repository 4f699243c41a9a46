use Prim.Native.Nat.{◌≤◌}
use native.Mathlib.Omega.{arith}
use lib.ListN.{length}
use Rattle.spec_text.proofs.utf8.Laws.{ascii_less, ascii_again, char_again, char_refused, utf8_passed}
use Rattle.utf8.proofs.StepLaws.{three_past}
use Rattle.utf8.proofs.utf8.is_utf8.Goals as goal

pub loop-t-smaller-then-a-lt128 : goal.loop-t-smaller-then-a-lt128
loop-t-smaller-then-a-lt128 c = search ascii_less

pub loop-t-preserved-then-a-lt128 : goal.loop-t-preserved-then-a-lt128
loop-t-preserved-then-a-lt128 c = search ascii_again

pub returns-in-0 : goal.returns-in-0
returns-in-0 c = search char_refused

pub loop-t-preserved-in-len3-up-u : goal.loop-t-preserved-in-len3-up-u
loop-t-preserved-in-len3-up-u c =
    three_past _ _ _ (three_past _ _ _ c.loop-t.invariant c.in-len3-up.len_at_least c.three.ensures c.if-three.true) c.in-len3-up-u.len_at_least c.three-in-len3-up.ensures c.if-three-2.true

pub loop-t-preserved-in_default-u : goal.loop-t-preserved-in_default-u
loop-t-preserved-in_default-u c = search (three_past, c.three.ensures)

pub loop-t-preserved-in_default-u-2 : goal.loop-t-preserved-in_default-u-2
loop-t-preserved-in_default-u-2 c = search (three_past, c.three.ensures)

pub loop-t-preserved : goal.loop-t-preserved
loop-t-preserved c = search char_again

pub returns : goal.returns
returns c = let l : length c.loop-t.t.now ≤ 0 = omega arith in search utf8_passed

use native.Mathlib.Omega.{arith}
use Rattle.spec_time.proofs.caption_stamp.Pad.{width_small, width_big}
use Rattle.caption_stamp.proofs.write.digits.Goals as goal

pub loop-rest-preserved : goal.loop-rest-preserved
loop-rest-preserved c = omega (arith, width_big c.loop-rest-test.true)

pub returns : goal.returns
returns c = omega (arith, width_small {n = c.loop-rest.rest} (omega arith))

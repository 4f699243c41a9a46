use mathlib.Core.Path.{sym, ◌∙◌}
use native.Mathlib.Omega.{arith}
use lib.ListN.{length-set}
use Rattle.spec_base.specs.base.Put.{put}
use Rattle.spec_time.proofs.caption_stamp.Pad.{pad_length, pad_back, pad_none}
use Rattle.caption_stamp.proofs.write.put_digits.Goals as goal

pub loop-i-preserved : goal.loop-i-preserved
loop-i-preserved c = let l = c.loop-i in (rw length-set l.invariant.0, pad_back l.i l.rest l.out (omega arith) (omega arith) ∙ l.invariant.1)

pub returns : goal.returns
unfolding put
returns c = let a = c.args in let l = c.loop-i in rw (pad_length a.k a.n) (sym (pad_none l.i l.rest l.out (omega arith)) ∙ l.invariant.1)

use Rattle.spec_time.proofs.caption_stamp.Pad.{pad_unfit, pad_fit}
use Rattle.caption_stamp.proofs.write.last_digits.Goals as goal

pub returns-then-k-out : goal.returns-then-k-out
returns-then-k-out c = search pad_fit

pub returns-else-k-out : goal.returns-else-k-out
returns-else-k-out c = search pad_unfit

use native.Mathlib.Omega.{arith}
use Rattle.spec_base.specs.base.Limits.{most_hours}
use Rattle.spec_time.proofs.caption_stamp.Reading.{from_below, vtt_hours, vtt_none}
use Rattle.caption_stamp.proofs.read.read_vtt.Goals as goal

pub minutes_on-requires : goal.minutes_on-requires
minutes_on-requires c = from_below most_hours _ c.wide_from-h.ensures (omega arith)

pub returns-then-has : goal.returns-then-has
returns-then-has c = search vtt_hours depth 14

pub returns : goal.returns
returns c = search vtt_none depth 14

use native.Mathlib.Omega.{arith}
use Rattle.spec_base.specs.base.Limits.{most_minutes, most_seconds}
use Rattle.spec_time.proofs.caption_stamp.Reading.{wide_below, minutes_all}
use borrow.Author.Rules.{rules}
use Rattle.caption_stamp.proofs.read.minutes_on.Goals as goal

pub join-requires : goal.join-requires
join-requires c = (omega arith, (search rules, (wide_below 2 most_minutes _ c.wide_by-m.ensures (omega arith), (wide_below 2 most_seconds _ c.wide_by-s.ensures (omega arith), wide_below 3 999 _ c.wide_by-f.ensures (omega arith)))))

pub returns : goal.returns
returns c = search minutes_all depth 14

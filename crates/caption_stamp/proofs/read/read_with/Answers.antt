use Prim.Native.Nat.{◌-◌}
use native.Mathlib.Omega.{arith}
use Rattle.spec_base.specs.base.Limits.{most_hours, most_minutes, most_seconds}
use Rattle.spec_time.proofs.caption_stamp.Reading.{number_below, read_all}
use Rattle.caption_stamp.proofs.read.read_with.Goals as goal

pub join-requires : goal.join-requires
join-requires c = (omega arith, (number_below most_hours _ c.number_to-h.ensures (omega arith), (number_below most_minutes _ c.number_to-m.ensures (omega arith), (number_below most_seconds _ c.number_to-s.ensures (omega arith), number_below (c.args.unit - 1) _ c.number_to-f.ensures (omega arith)))))

pub returns : goal.returns
returns c = search read_all depth 14

use Rattle.spec_time.proofs.caption_stamp.Written.{write_none, write_limits, write_some}
use Rattle.caption_stamp.proofs.write.write_time.Goals as goal

pub returns-then-kind_bad : goal.returns-then-kind_bad
returns-then-kind_bad c = write_none _ _ _ _ _ c.kind_bad.ensures c.if-kind_bad.true

pub write_with-requires : goal.write_with-requires
write_with-requires c = rw c.from.ensures (write_limits _ _ c.kind_bad.ensures c.if-kind_bad.false _ _ _ c.units_of.ensures c.fraction_digits.ensures c.hour_digits.ensures)

pub returns : goal.returns
returns c =
    let w = rw c.from.ensures at c.write_with.ensures in
    write_some _ _ c.kind_bad.ensures c.if-kind_bad.false _ _ _ c.units_of.ensures c.fraction_digits.ensures c.hour_digits.ensures _ _ _ _ _ w

use Rattle.spec_time.proofs.caption_stamp.Reading.{read_none, read_limits, read_some, read_two}
use Rattle.caption_stamp.proofs.PlainLaws.{read_plain}
use Rattle.caption_stamp.proofs.read.read_time.Goals as goal

pub returns-then-kind_bad : goal.returns-then-kind_bad
returns-then-kind_bad c = search read_none

pub returns-then-kind-eq2 : goal.returns-then-kind-eq2
returns-then-kind-eq2 c = search read_two

pub returns-in-Some : goal.returns-in-Some
returns-in-Some c = read_plain _ _ _ _ _ _ c.kind_bad.ensures c.if-kind_bad.false c.if-kind-eq2.false c.trimmed-t.ensures c.in-Some.ensures c.mark_of.ensures

pub read_with-requires : goal.read_with-requires
read_with-requires c = read_limits _ _ _ c.kind_bad.ensures c.if-kind_bad.false c.units_of.ensures

pub returns : goal.returns
returns c = search read_some depth 12

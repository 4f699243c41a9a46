use Rattle.std.proofs.Common.{◌∙◌}
use borrow.Author.Tests.{lt-ltb}
use Rattle.spec_map.proofs.segment.SegmentLaws.{end_past, end_tested}
use Rattle.segment.proofs.segment.end_bad.Goals as goal

pub returns-then-start-gt-MOST_TICKS : goal.returns-then-start-gt-MOST_TICKS
returns-then-start-gt-MOST_TICKS c = let h = c.if-start-gt-MOST_TICKS.true in lt-ltb _ _ h ∙ end_past _ _ h

pub returns-else-start-gt-MOST_TICKS : goal.returns-else-start-gt-MOST_TICKS
returns-else-start-gt-MOST_TICKS c = search end_tested

use mathlib.Core.Path.{sym, ◌∙◌}
use mathlib.Core.Bool.{true≢false}
use borrow.Author.Tests.{lt-ltb}
use Rattle.spec_cue.proofs.block_timing.PlaceLaws.{end_1, end_2, end_3}
use Rattle.block_timing.proofs.timing.srt_end.Goals as goal
use Rattle.block_timing.proofs.timing.srt_end.Goals.{then-r-lt12, else-r-lt12}

pub returns-then-is_tail : goal.returns-then-is_tail
returns-then-is_tail c = elim c.if-r-lt12.branch [ then-r-lt12 w ↦ end_1 _ w.if-r-lt12.true | else-r-lt12 w ↦ end_2 _ _ _ w.if-r-lt12.false w.get_or.ensures w.is_tail.ensures (sym w.value-is ∙ c.if-is_tail.true) ]

pub returns-else-is_tail : goal.returns-else-is_tail
returns-else-is_tail c = elim c.if-r-lt12.branch [ then-r-lt12 w ↦ absurd (true≢false (sym (lt-ltb _ 12 w.if-r-lt12.true) ∙ sym w.value-is ∙ c.if-is_tail.false)) | else-r-lt12 w ↦ end_3 _ _ _ w.if-r-lt12.false w.get_or.ensures w.is_tail.ensures (sym w.value-is ∙ c.if-is_tail.false) ]

use Rattle.spec_rows.proofs.caption_rows.TurnLaws.{fault_19, fault_20, fault_none}
use Rattle.caption_rows.proofs.walking.line_fault.Goals as goal

pub returns-then-mark-line-gt-MOST_LINE : goal.returns-then-mark-line-gt-MOST_LINE
returns-then-mark-line-gt-MOST_LINE c = search fault_19

pub returns-then-is_utf8 : goal.returns-then-is_utf8
returns-then-is_utf8 c = search fault_none

pub returns-else-is_utf8 : goal.returns-else-is_utf8
returns-else-is_utf8 c = search fault_20

use Rattle.number_lines.proofs.LineLaws.{line_room, line_yes_length, line_yes, line_no_length, line_no, short_length, short_line}
use Rattle.number_lines.proofs.writing.line.Goals as goal

pub returns-then-out-name : goal.returns-then-out-name
returns-then-out-name c = (search short_length, search short_line)

pub whole-requires : goal.whole-requires
whole-requires c = search line_room

pub returns-then-fits : goal.returns-then-fits
returns-then-fits c = (search line_yes_length, search line_yes)

pub returns-else-fits : goal.returns-else-fits
returns-else-fits c = (search line_no_length, search line_no)

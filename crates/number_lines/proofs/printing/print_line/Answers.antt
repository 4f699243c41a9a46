use Rattle.number_lines.proofs.LineLaws.{printed}
use Rattle.number_lines.proofs.printing.print_line.Goals as goal

pub returns-clause-value : goal.returns-clause-value
returns-clause-value g c = search printed

use Rattle.spec_text.proofs.text.LineLaws.{line_less}
use Rattle.mapper_cases.proofs.run_cases.Goals as goal

pub loop-t-smaller : goal.loop-t-smaller
loop-t-smaller g c = search line_less

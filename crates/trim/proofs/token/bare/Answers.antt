use Rattle.spec_trim.proofs.trim.MarkLaws.{trim_plain}
use Rattle.trim.proofs.token.bare.Goals as goal

pub returns-then-is_plain-2 : goal.returns-then-is_plain-2
returns-then-is_plain-2 c = search trim_plain

use Rattle.std.proofs.Common.{rules}
use Rattle.spec_base.specs.base.Part.{last}
use Rattle.base.proofs.part.last_part.Goals as goal

pub returns : goal.returns
unfolding last
returns c = search rules

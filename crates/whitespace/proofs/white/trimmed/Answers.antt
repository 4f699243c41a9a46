use Rattle.spec_text.specs.whitespace.White.{trim}
use Rattle.whitespace.proofs.white.trimmed.Goals as goal

pub returns : goal.returns
unfolding trim
returns c = cc

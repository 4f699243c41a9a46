use Rattle.spec_text.specs.whitespace.White.{ends_white}
use Rattle.whitespace.proofs.white.ends_white.Goals as goal

pub returns : goal.returns
unfolding ends_white
returns c = cc

use Rattle.spec_text.specs.utf8.Utf8.{code_head}
use Rattle.utf8.proofs.utf8.code_head.Goals as goal

pub returns : goal.returns
unfolding code_head
returns c = cc

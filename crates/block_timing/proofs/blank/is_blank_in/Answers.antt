use mathlib.Core.Path.{◌∙◌}
use native.Mathlib.Omega.{arith}
use Rattle.spec_cue.specs.block_timing.Style.{blank_in}
use Rattle.spec_base.proofs.base.Laws.{chain}
use Rattle.spec_cue.proofs.block_timing.VttLaws.{blank_two}
use Rattle.block_timing.proofs.blank.is_blank_in.Goals as goal

pub returns-in-1 : goal.returns-in-1
unfolding blank_in
returns-in-1 c = search chain depth 12

pub returns-in-2 : goal.returns-in-2
returns-in-2 c = c.is_empty.ensures ∙ blank_two _ _ _ (omega arith) c.in-2.is c.text_of.ensures

pub returns-in_default : goal.returns-in_default
unfolding blank_in
returns-in_default c = search chain depth 12

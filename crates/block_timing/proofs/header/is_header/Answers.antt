use mathlib.Core.Path.{◌∙◌}
use Rattle.spec_cue.proofs.block_timing.VttLaws.{header_some, header_other}
use Rattle.block_timing.proofs.header.is_header.Goals as goal

pub returns-then-starts_with : goal.returns-then-starts_with
returns-then-starts_with c = search header_some depth 12

pub returns-else-starts_with : goal.returns-else-starts_with
returns-else-starts_with c = c.if-starts_with.false ∙ header_other _ _ _ c.text_of-t.ensures c.starts_with.ensures c.if-starts_with.false

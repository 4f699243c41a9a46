use mathlib.Core.Path.{◌∙◌}
use Rattle.spec_text.proofs.text.LineLaws.{blank_found}
use Rattle.text.proofs.line.is_blank.Goals as goal

pub returns : goal.returns
returns c = c.is_empty.ensures ∙ blank_found _ _ c.trim_head.ensures

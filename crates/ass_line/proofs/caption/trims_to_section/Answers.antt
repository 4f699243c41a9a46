use mathlib.Core.Path.{◌∙◌}
use borrow.Author.Tests.{ne_eqb}
use Rattle.spec_ass.proofs.ass_columns.SectionLaws.{section_none}
use Rattle.ass_line.proofs.caption.trims_to_section.Goals as goal

pub returns-else-get_or-eq91 : goal.returns-else-get_or-eq91
returns-else-get_or-eq91 c = ne_eqb _ 91 c.if-get_or-eq91.false ∙ section_none _ _ c.get_or.ensures c.if-get_or-eq91.false

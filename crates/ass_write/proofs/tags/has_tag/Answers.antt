use mathlib.Core.Path.{refl}
use Rattle.spec_ass.proofs.ass_write.TagLaws.{tag_none}
use Rattle.ass_write.proofs.TagSearch.{search_found, search_again}
use Rattle.ass_write.proofs.tags.has_tag.Goals as goal

pub loop-i-init : goal.loop-i-init
loop-i-init c = refl

pub returns-then-starts_tag : goal.returns-then-starts_tag
returns-then-starts_tag c = search search_found

pub loop-i-preserved : goal.loop-i-preserved
loop-i-preserved c = search search_again

pub returns : goal.returns
returns c = tag_none _ _ _ c.loop-i.invariant c.loop-i-test.false refl

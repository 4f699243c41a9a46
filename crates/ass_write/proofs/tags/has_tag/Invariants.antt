use mathlib.Core.Path.{◌≡◌}
use lib.ListN.{drop}
use Rattle.spec_ass.specs.ass_write.Tags.{tagged}
use Rattle.ass_write.proofs.tags.has_tag.Given as goal

abbrev pub invariant-loop-i : goal.invariant-loop-i
invariant-loop-i l = tagged (drop l.i l.s) ≡ tagged l.s

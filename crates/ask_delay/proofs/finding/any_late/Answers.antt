use mathlib.Core.Path.{sym, ◌∙◌}
use borrow.Author.Rules.{rules}
use borrow.Author.Tests.{tests}
use lib.Dec.{ltb}
use Rattle.std.proofs.lemmas.Iterator.{YieldsList-from_slice}
use Rattle.std.proofs.lemmas.Iterator.Search.{any_from_yields_List}
use Rattle.spec_base.specs.base.Limits.{most_units}
use Rattle.ask_delay.proofs.AnswerLaws.{late_any}
use Rattle.ask_delay.proofs.finding.any_late.Goals as goal

pub returns : goal.returns
returns c =
    any_from_yields_List (ltb most_units) _ _ _ c.any.ensures.ran (YieldsList-from_slice c.args.captions.now cc) (λ x b q k. search (rules, tests))
    ∙ sym (late_any c.args.captions.now)

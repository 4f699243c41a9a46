use mathlib.Core.Path.{◌∙◌}
use borrow.Author.Tests.{le-ltb}
use Rattle.spec_ask.proofs.ask_delay.SavingLaws.{short_one, long_one}
use Rattle.ask_delay.proofs.saving.too_long.Goals as goal

pub returns-then-start-stop : goal.returns-then-start-stop
returns-then-start-stop c = let h = c.requires in long_one _ _ _ _ _ _ _ h.0 h.1 h.2 c.if-start-stop.true c.core_ticks.ensures c.exceeds_all.ensures

pub returns-else-start-stop : goal.returns-else-start-stop
returns-else-start-stop c = let h = c.if-start-stop.false in le-ltb _ _ h ∙ short_one _ _ _ _ _ h

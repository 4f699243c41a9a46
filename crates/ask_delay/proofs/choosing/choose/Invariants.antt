use mathlib.Core.Path.{◌≡◌}
use Prim.Native.Nat.{◌+◌}
use Rattle.ask_delay.proofs.ChoiceLaws.{Choosing}
use Rattle.ask_delay.proofs.choosing.choose.Given as goal

abbrev pub invariant-loop-loss : goal.invariant-loop-loss
invariant-loop-loss l = Choosing l.losses l.tries l.best × (l.best.tried ≡ l.loss-index + 1)

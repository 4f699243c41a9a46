use Rattle.spec_ask.proofs.ask_delay.TallyLaws.{Counting}
use Rattle.ask_delay.proofs.counting.count_one.Given as goal

abbrev pub invariant-loop-k : goal.invariant-loop-k
invariant-loop-k l = Counting l.grades l.start l.stop l.tries l.k l.initial.losses l.losses

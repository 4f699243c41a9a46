use Rattle.std.proofs.Common.{◌*◌, drop}
use Rattle.spec_ask.proofs.ask_reason.CauseLaws.{Filling}
use Rattle.ask_reason.proofs.causes.fill.Given as goal

abbrev pub invariant-loop-i : goal.invariant-loop-i
invariant-loop-i l = Filling l.map (drop (6 * l.i) l.map) l.a l.b l.i l.initial.places l.places

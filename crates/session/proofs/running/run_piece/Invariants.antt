use Rattle.spec_session.specs.session.Stand.{holding_to}
use Rattle.spec_session.proofs.session.RunLaws.{Turn}
use Rattle.session.proofs.running.run_piece.Given as goal

abbrev pub invariant-loop-b : goal.invariant-loop-b
invariant-loop-b l = Turn l.config l.map l.initial.at l.piece l.initial.held l.initial.out l.initial.warnings (holding_to l.at l.m) l.held l.out l.warnings l.b-index

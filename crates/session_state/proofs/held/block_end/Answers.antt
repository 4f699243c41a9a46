use Rattle.std.proofs.Common.{rules, ◌≡◌, arith}
use Rattle.spec_session.proofs.session_state.HeldLaws.{closed_length, end_found, end_again}
use Rattle.session_state.proofs.held.block_end.Goals as goal

pub returns-then-held-i-eq10 : goal.returns-then-held-i-eq10
returns-then-held-i-eq10 c = let e : c.loop-i.i ≡ closed_length c.args.held.now = search (rules, end_found) in omega arith

pub loop-i-preserved : goal.loop-i-preserved
loop-i-preserved c = search (rules, end_again)

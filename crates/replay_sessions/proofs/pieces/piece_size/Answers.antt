use Rattle.std.proofs.Common.{◌+◌, ◌/◌, ◌%◌, ◌<◌, mod-lt, arith}
use Rattle.replay_sessions.proofs.pieces.piece_size.Goals as goal

pub overflow_add-result-else-plan-eq0 : goal.overflow_add-result-else-plan-eq0
overflow_add-result-else-plan-eq0 c = let m : c.args.draw / 65536 % (1 + c.args.plan % 1024) < 1 + c.args.plan % 1024 = mod-lt (c.args.draw / 65536) (omega arith) in omega (arith, m)

pub overflow_cast-result : goal.overflow_cast-result
overflow_cast-result c = let m : c.args.draw / 65536 % (1 + c.args.plan % 1024) < 1 + c.args.plan % 1024 = mod-lt (c.args.draw / 65536) (omega arith) in omega (arith, m)

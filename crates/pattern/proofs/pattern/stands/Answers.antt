use native.Mathlib.Omega.{arith}
use Rattle.spec_text.proofs.pattern.Laws.{stands_none}
use Rattle.pattern.proofs.StdLaws.{stands_differs, stands_rest}
use Rattle.pattern.proofs.pattern.stands.Goals as goal

pub returns-in-empty : goal.returns-in-empty
returns-in-empty c = stands_none c.args.p.now c.args.s.now c.args.i (omega arith)

pub returns-then-s-i : goal.returns-then-s-i
returns-then-s-i c = stands_rest c.args.p.now c.args.s.now c.args.i _ c.requires c.in-len1-up.len_at_least c.if-s-i.true c.starts_with.ensures.value

pub returns-else-s-i : goal.returns-else-s-i
returns-else-s-i c = stands_differs c.args.p.now c.args.s.now c.args.i c.in-len1-up.len_at_least c.if-s-i.false

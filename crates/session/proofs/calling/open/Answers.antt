use mathlib.Core.Path.{refl}
use Rattle.refusals.proofs.Laws.{refused_not_0}
use Rattle.spec_session.proofs.session.CallLaws.{opened_refused, opened_fresh}
use Rattle.session.proofs.calling.open.Goals as goal

pub returns-in-Err : goal.returns-in-Err
returns-in-Err c = rw c.from.ensures (opened_refused c.args.kind c.args.timescale c.args.map.now _ _ c.in-Err.ensures (refused_not_0 _) c.end_session-session.ensures)

pub returns : goal.returns
returns c = opened_fresh c.args.kind c.args.timescale c.args.map.now _ _ c.in_default.ensures refl c.no_columns.ensures

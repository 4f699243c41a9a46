use mathlib.Core.Path.{◌∙◌}
use native.Mathlib.Omega.{arith}
use lib.Dec.{eqb}
use lib.ListN.{length, length-set}
use Rattle.spec_machine.specs.kinds.Takes.{machine_of}
use Rattle.spec_session.proofs.session.StandLaws.{byte_idle, byte_long, byte_more, byte_line, more_room}
use Rattle.session.proofs.running.step.Goals as goal

pub returns-then-at-ne0 : goal.returns-then-at-ne0
returns-then-at-ne0 c = let A = c.args in λ t q o w p sh. byte_idle A.config A.map.now (machine_of A.config.kind) (eqb A.config.kind 0) t o w A.at A.held.now A.out.now A.warnings.now A.b q sh c.if-at-ne0.true

pub overflow_sub-n : goal.overflow_sub-n
overflow_sub-n c = let A = c.args in let R = c.requires.1 c.if-at-ne0.false in omega (arith, R.order)

pub returns-then-n-at-ge-MOST_LINE : goal.returns-then-n-at-ge-MOST_LINE
returns-then-n-at-ge-MOST_LINE c = let A = c.args in λ t q o w p sh. byte_long A.config A.map.now (machine_of A.config.kind) (eqb A.config.kind 0) t o w A.at A.held.now A.out.now A.warnings.now A.b q _ p sh c.if-at-ne0.false c.if-n-at-ge-MOST_LINE.true c.stop.ensures

pub bounds-held-n : goal.bounds-held-n
bounds-held-n c = let A = c.args in let R = c.requires.1 c.if-at-ne0.false in omega (arith, R, c.if-n-at-ge-MOST_LINE.false)

pub overflow_add-n : goal.overflow_add-n
overflow_add-n c = let A = c.args in let R = c.requires.1 c.if-at-ne0.false in omega (arith, R)

pub returns-then-b-ne10 : goal.returns-then-b-ne10
returns-then-b-ne10 c = let A = c.args in let R = c.requires.1 c.if-at-ne0.false in λ t q o w p sh. byte_more A.config A.map.now (machine_of A.config.kind) (eqb A.config.kind 0) t o w A.at A.held.now A.out.now A.warnings.now A.b q _ p sh c.if-at-ne0.false c.if-n-at-ge-MOST_LINE.false (omega (arith, R, c.if-n-at-ge-MOST_LINE.false)) c.holding-more.ensures c.if-b-ne10.true

pub end_line-requires : goal.end_line-requires
end_line-requires c = let A = c.args in let R = c.requires.1 c.if-at-ne0.false in (c.requires.0, more_room A.at _ (length A.held.now) _ _ _ c.holding-more.ensures R c.if-n-at-ge-MOST_LINE.false (length-set A.held.now A.at.held A.b))

pub shape_of-held : goal.shape_of-held
shape_of-held c = let A = c.args in c.end_line.auto.held ∙ length-set A.held.now A.at.held A.b

pub returns : goal.returns
returns c = let A = c.args in let R = c.requires.1 c.if-at-ne0.false in λ t q o w p sh. byte_line A.config A.map.now (machine_of A.config.kind) (eqb A.config.kind 0) t o w A.at A.held.now A.out.now A.warnings.now A.b q _ _ _ _ _ p sh c.if-at-ne0.false c.if-n-at-ge-MOST_LINE.false (omega (arith, R, c.if-n-at-ge-MOST_LINE.false)) c.holding-more.ensures c.if-b-ne10.false (λ s n l ps g v. c.end_line.ensures t s n l ps o w g v)

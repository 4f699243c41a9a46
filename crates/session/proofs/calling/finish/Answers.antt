use mathlib.Core.Path.{◌≡◌, sym}
use lib.ListN.{length}
use Rattle.refusals.proofs.Laws.{refused_not_0}
use Rattle.spec_session.proofs.session.CallLaws.{finish_refused, Passed, not_refused, passed_ready, passed_opening, answered_finished}
use borrow.Author.Rules.{rules}
use Rattle.session.proofs.calling.finish.Goals as goal

pub returns-in-Err : goal.returns-in-Err
returns-in-Err c = let A = c.args in finish_refused A.session A.map.now A.out.now A.warnings.now _ _ c.in-Err.ensures (refused_not_0 _) (rw c.from.ensures at c.unchanged.ensures)

pub slice_bounds-finish_run-end : goal.slice_bounds-finish_run-end
slice_bounds-finish_run-end c =
    let size : length c.args.session.held ≡ 8192 = search rules in
    sym size

pub finish_run-end-requires : goal.finish_run-end-requires
finish_run-end-requires c =
    let size : length c.args.session.held ≡ 8192 = search rules in
    let admitted : Passed c.args.session c.args.map.now 0 (length c.args.out.now) (length c.args.warnings.now) = not_refused _ _ _ _ _ (sym c.in_default.ensures) in
    let A = c.args in let p = admitted in (passed_ready A.session A.map.now _ _ _ p, passed_opening A.session A.map.now 0 _ _ _ size p c.begin-start.ensures)

pub returns : goal.returns
returns c =
    let size : length c.args.session.held ≡ 8192 = search rules in
    let admitted : Passed c.args.session c.args.map.now 0 (length c.args.out.now) (length c.args.warnings.now) = not_refused _ _ _ _ _ (sym c.in_default.ensures) in
    let A = c.args in let b = c.begin-start in let r = c.finish_run-end in answered_finished A.session A.map.now A.out.now A.warnings.now admitted r.result r.new.held r.new.out r.new.warnings size b.result b.ensures r.ensures _ c.over.ensures

use mathlib.Core.Path.{◌≡◌, sym, ◌∙◌}
use native.Mathlib.Omega.{arith}
use Prim.Native.Nat.{◌≤◌}
use lib.ListN.{length}
use Rattle.refusals.proofs.Laws.{refused_not_0}
use Rattle.spec_session.proofs.session.CallLaws.{feed_refused, answered_empty, Passed, not_refused, passed_ready, passed_opening, answered_dead, answered_live, end_small}
use borrow.Author.Rules.{rules}
use borrow.Author.Tests.{eqb-true, eqb-false}
use Rattle.session.proofs.calling.feed.Goals as goal

pub returns-in-Err : goal.returns-in-Err
returns-in-Err c = let A = c.args in feed_refused A.session A.map.now A.piece.now A.out.now A.warnings.now _ _ c.in-Err.ensures (refused_not_0 _) (rw c.from.ensures at c.unchanged.ensures)

pub returns-then-is_empty : goal.returns-then-is_empty
returns-then-is_empty c =
    let admitted : Passed c.args.session c.args.map.now (length c.args.piece.now) (length c.args.out.now) (length c.args.warnings.now) = not_refused _ _ _ _ _ (sym c.in_default.ensures) in
    let A = c.args in answered_empty A.session A.map.now A.piece.now A.out.now A.warnings.now _ admitted (eqb-true _ 0 (sym c.is_empty.ensures ∙ c.if-is_empty.true)) c.unchanged-then-is_empty.ensures

pub slice_bounds-run_piece-end : goal.slice_bounds-run_piece-end
slice_bounds-run_piece-end c =
    let size : length c.args.session.held ≡ 8192 = search rules in
    sym size

pub run_piece-end-requires : goal.run_piece-end-requires
run_piece-end-requires c =
    let size : length c.args.session.held ≡ 8192 = search rules in
    let admitted : Passed c.args.session c.args.map.now (length c.args.piece.now) (length c.args.out.now) (length c.args.warnings.now) = not_refused _ _ _ _ _ (sym c.in_default.ensures) in
    let A = c.args in let p = admitted in (passed_ready A.session A.map.now _ _ _ p, passed_opening A.session A.map.now (length A.piece.now) _ _ _ size p c.begin-start.ensures, p.piece_fits)

pub overflow_cast-taken : goal.overflow_cast-taken
overflow_cast-taken c =
    let admitted : Passed c.args.session c.args.map.now (length c.args.piece.now) (length c.args.out.now) (length c.args.warnings.now) = not_refused _ _ _ _ _ (sym c.in_default.ensures) in
    omega (arith, admitted.piece_fits)

pub overflow_add-taken : goal.overflow_add-taken
overflow_add-taken c =
    let admitted : Passed c.args.session c.args.map.now (length c.args.piece.now) (length c.args.out.now) (length c.args.warnings.now) = not_refused _ _ _ _ _ (sym c.in_default.ensures) in
    omega (arith, admitted.total)

pub returns-then-end-ne0 : goal.returns-then-end-ne0
returns-then-end-ne0 c =
    let size : length c.args.session.held ≡ 8192 = search rules in
    let admitted : Passed c.args.session c.args.map.now (length c.args.piece.now) (length c.args.out.now) (length c.args.warnings.now) = not_refused _ _ _ _ _ (sym c.in_default.ensures) in
    let A = c.args in let b = c.begin-start in let r = c.run_piece-end in answered_dead A.session A.map.now A.out.now A.warnings.now size b.result b.ensures r.result r.new.held r.new.out r.new.warnings A.piece.now admitted (eqb-false _ 0 (sym c.is_empty.ensures ∙ c.if-is_empty.false)) r.ensures c.if-end-ne0.true _ c.over.ensures

pub slice_bounds-fill-count : goal.slice_bounds-fill-count
slice_bounds-fill-count c =
    let size : length c.args.session.held ≡ 8192 = search rules in
    let admitted : Passed c.args.session c.args.map.now (length c.args.piece.now) (length c.args.out.now) (length c.args.warnings.now) = not_refused _ _ _ _ _ (sym c.in_default.ensures) in
    let few : c.run_piece-end.result.held ≤ 8192 = let A = c.args in
    let b = c.begin-start in
    let r = c.run_piece-end in
    end_small A.session A.map.now A.piece.now _ _ A.out.now A.warnings.now b.result r.result _ _ _ size admitted b.ensures r.ensures c.if-end-ne0.false in
    omega (arith, few)

pub slice_bounds-held-start : goal.slice_bounds-held-start
slice_bounds-held-start c =
    let size : length c.args.session.held ≡ 8192 = search rules in
    let admitted : Passed c.args.session c.args.map.now (length c.args.piece.now) (length c.args.out.now) (length c.args.warnings.now) = not_refused _ _ _ _ _ (sym c.in_default.ensures) in
    let few : c.run_piece-end.result.held ≤ 8192 = let A = c.args in
    let b = c.begin-start in
    let r = c.run_piece-end in
    end_small A.session A.map.now A.piece.now _ _ A.out.now A.warnings.now b.result r.result _ _ _ size admitted b.ensures r.ensures c.if-end-ne0.false in
    omega (arith, few)

pub returns : goal.returns
returns c =
    let size : length c.args.session.held ≡ 8192 = search rules in
    let admitted : Passed c.args.session c.args.map.now (length c.args.piece.now) (length c.args.out.now) (length c.args.warnings.now) = not_refused _ _ _ _ _ (sym c.in_default.ensures) in
    let A = c.args in let b = c.begin-start in let r = c.run_piece-end in let l = size in answered_live A.session A.map.now A.out.now A.warnings.now l b.result b.ensures r.result r.new.held r.new.out r.new.warnings A.piece.now _ admitted (eqb-false _ 0 (sym c.is_empty.ensures ∙ c.if-is_empty.false)) r.ensures c.if-end-ne0.false (r.auto.held ∙ l) (c.fill.ensures.after (λ y e. e)) _ c.going_on.ensures

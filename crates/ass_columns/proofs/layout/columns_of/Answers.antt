use mathlib.Core.Path.{ap, ◌∙◌}
use native.Mathlib.Omega.{arith}
use borrow.Author.Rules.{rules}
use lib.Dec.{eqb}
use Rattle.std.proofs.lemmas.List.Sorted.{answers_always}
use Rattle.std.specs.Slice.Iter.{split_rest, split_done}
use Rattle.ass_columns.proofs.PieceLoop.{parts_all, parts_again, parts_few}
use Rattle.ass_columns.proofs.layout.columns_of.Goals as goal

pub loop-piece-init : goal.loop-piece-init
loop-piece-init c =
    let e = c.into_iter-piece-iterator.ensures.into_iter_gives in
    parts_all _ _ _ (ap split_rest e ∙ c.split-piece-items.ensures.rest) (ap split_done e ∙ c.split-piece-items.ensures.done)

pub overflow_add-trimmed : goal.overflow_add-trimmed
overflow_add-trimmed c = omega (arith, c.well_formed, parts_few _ _ _ _ _ _ _ c.loop-piece.invariant c.in-Some.ensures.steps.0)

pub overflow_add-columns : goal.overflow_add-columns
overflow_add-columns c = omega (arith, c.well_formed, parts_few _ _ _ _ _ _ _ c.loop-piece.invariant c.in-Some.ensures.steps.0)

pub loop-piece-preserved : goal.loop-piece-preserved
loop-piece-preserved c =
    let st = c.in-Some.ensures.steps in
    let m = (st.2 (λ b. eqb b 44) (answers_always _ _ _ (λ f a r g h. search rules))).1 in
    parts_again _ _ _ _ _ _ _ _ _ _ _ _ _ c.loop-piece.invariant st.0 m c.trimmed-name.ensures c.equals.ensures c.equals-in-loop-piece.ensures c.first_place-start.ensures c.first_place-end.ensures _ _ st.1

pub returns : goal.returns
returns c = c.loop-piece.invariant.whole c.in-None.ensures.steps.0

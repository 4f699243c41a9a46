use Rattle.ass_columns.proofs.PieceLoop.{Parts}
use Rattle.ass_columns.proofs.layout.columns_of.Given as goal

abbrev pub invariant-loop-piece : goal.invariant-loop-piece
invariant-loop-piece l = Parts l.s l.piece-iterator.rest.now l.piece-iterator.done l.columns l.trimmed l.start l.end

use Rattle.ass_write.proofs.FieldLoop.{Going}
use Rattle.ass_write.proofs.writing.write_fields.Given as goal

abbrev pub invariant-loop-k : goal.invariant-loop-k
invariant-loop-k l = Going l.texts.start.now l.texts.stop.now l.columns.start l.columns.«end» l.columns.columns l.rest l.initial.out l.from l.k l.at l.t l.out

use Rattle.map_json_write.proofs.WrittenLaws.{decimal_none, decimal_done, end_fits, end_most}
use Rattle.map_json_write.proofs.pieces.decimal_at.Goals as goal

pub overflow_add-end : goal.overflow_add-end
overflow_add-end c = record { fits = search end_fits }

pub returns-then-out-end : goal.returns-then-out-end
returns-then-out-end c = (search decimal_none, search end_most)

pub returns : goal.returns
returns c = (search decimal_done, search end_most)

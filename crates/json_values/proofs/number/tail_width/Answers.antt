use Rattle.spec_json.proofs.json.NumberLaws.{tail_is, tail_fits}
use Rattle.json_values.proofs.number.tail_width.Goals as goal

pub overflow_add-result : goal.overflow_add-result
overflow_add-result c = record { fits = search tail_fits }

pub returns : goal.returns
returns c = search tail_is

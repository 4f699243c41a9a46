use Rattle.spec_json.proofs.json.NumberLaws.{number_none, number_some, int_fits, number_fits}
use Rattle.json_values.proofs.number.number_width.Goals as goal

pub returns-then-n-eq0 : goal.returns-then-n-eq0
returns-then-n-eq0 c = search number_none

pub overflow_add-w : goal.overflow_add-w
overflow_add-w c = record { fits = search int_fits }

pub overflow_add-result : goal.overflow_add-result
overflow_add-result c = record { fits = search number_fits }

pub returns : goal.returns
returns c = search number_some

use Rattle.spec_json.proofs.json.NumberLaws.{exp_fits, exp_fits_2}
use Rattle.json_values.proofs.number.exp_width.Goals as goal

pub overflow_add-result : goal.overflow_add-result
overflow_add-result c = record { fits = search exp_fits_2 }

pub overflow_add-result-in_default : goal.overflow_add-result-in_default
overflow_add-result-in_default c = record { fits = search exp_fits }

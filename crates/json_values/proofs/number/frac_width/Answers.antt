use Rattle.spec_json.proofs.json.NumberLaws.{frac_fits}
use Rattle.json_values.proofs.number.frac_width.Goals as goal

pub overflow_add-result : goal.overflow_add-result
overflow_add-result c = record { fits = search frac_fits }

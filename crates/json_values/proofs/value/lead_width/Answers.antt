use Rattle.spec_json.proofs.json.ItemLaws.{lead_space, lead_all, lead_key, lead_fits}
use Rattle.json_values.proofs.value.lead_width.Goals as goal

pub returns-then-opener-ne123 : goal.returns-then-opener-ne123
returns-then-opener-ne123 c = search lead_space

pub returns-then-k-eq0 : goal.returns-then-k-eq0
returns-then-k-eq0 c = search lead_all

pub overflow_add-result : goal.overflow_add-result
overflow_add-result c = record { fits = search lead_fits }

pub returns : goal.returns
returns c = search lead_key

use Rattle.spec_json.proofs.json.ValueLaws.{key_none, key_fits, key_fits_2, key_fits_3, key_other, key_some}
use Rattle.json_values.proofs.value.key_width.Goals as goal

pub returns-then-k-eq0 : goal.returns-then-k-eq0
returns-then-k-eq0 c = search key_none

pub overflow_add-w : goal.overflow_add-w
overflow_add-w c = record { fits = search key_fits }

pub overflow_add-n : goal.overflow_add-n
overflow_add-n c = record { fits = search key_fits_2 }

pub returns-then-get_or-ne58 : goal.returns-then-get_or-ne58
returns-then-get_or-ne58 c = search key_other

pub overflow_add-result : goal.overflow_add-result
overflow_add-result c = record { fits = search key_fits_3 }

pub returns : goal.returns
returns c = search key_some

use Rattle.c_api.proofs.MapTexts.{write_number_lem, write_bytes, written_left}
use Rattle.c_api.proofs.maps.retimer_map_write.Goals as goal

pub returns-clause-value : goal.returns-clause-value
returns-clause-value c = search write_number_lem

pub returns-clause-text_after : goal.returns-clause-text_after
returns-clause-text_after c = search write_bytes

pub returns-clause-written_after : goal.returns-clause-written_after
returns-clause-written_after c = search written_left

use Rattle.c_api.proofs.MapTexts.{read_number_lem, read_map, read_path, done_number, done_map, done_path}
use Rattle.c_api.proofs.MapTexts.{done_timescale, done_rate_num, done_rate_den, done_frames, done_numbers, done_length}
use Rattle.c_api.proofs.Mapped.{stays}
use Rattle.c_api.proofs.maps.retimer_map_read.Goals as goal

pub returns-then-number-ne0-clause-value : goal.returns-then-number-ne0-clause-value
returns-then-number-ne0-clause-value c = search read_number_lem

pub returns-then-number-ne0-clause-map_after : goal.returns-then-number-ne0-clause-map_after
returns-then-number-ne0-clause-map_after c = search read_map

pub returns-then-number-ne0-clause-path_after : goal.returns-then-number-ne0-clause-path_after
returns-then-number-ne0-clause-path_after c = search read_path

pub returns-then-number-ne0-clause-timescale_after : goal.returns-then-number-ne0-clause-timescale_after
returns-then-number-ne0-clause-timescale_after c = search stays

pub returns-then-number-ne0-clause-rate_num_after : goal.returns-then-number-ne0-clause-rate_num_after
returns-then-number-ne0-clause-rate_num_after c = search stays

pub returns-then-number-ne0-clause-rate_den_after : goal.returns-then-number-ne0-clause-rate_den_after
returns-then-number-ne0-clause-rate_den_after c = search stays

pub returns-then-number-ne0-clause-frames_after : goal.returns-then-number-ne0-clause-frames_after
returns-then-number-ne0-clause-frames_after c = search stays

pub returns-then-number-ne0-clause-numbers_after : goal.returns-then-number-ne0-clause-numbers_after
returns-then-number-ne0-clause-numbers_after c = search stays

pub returns-then-number-ne0-clause-path_length_after : goal.returns-then-number-ne0-clause-path_length_after
returns-then-number-ne0-clause-path_length_after c = search stays

pub returns-clause-value : goal.returns-clause-value
returns-clause-value c = search done_number

pub returns-clause-map_after : goal.returns-clause-map_after
returns-clause-map_after c = search done_map

pub returns-clause-path_after : goal.returns-clause-path_after
returns-clause-path_after c = search done_path

pub returns-clause-timescale_after : goal.returns-clause-timescale_after
returns-clause-timescale_after c = search done_timescale

pub returns-clause-rate_num_after : goal.returns-clause-rate_num_after
returns-clause-rate_num_after c = search done_rate_num

pub returns-clause-rate_den_after : goal.returns-clause-rate_den_after
returns-clause-rate_den_after c = search done_rate_den

pub returns-clause-frames_after : goal.returns-clause-frames_after
returns-clause-frames_after c = search done_frames

pub returns-clause-numbers_after : goal.returns-clause-numbers_after
returns-clause-numbers_after c = search done_numbers

pub returns-clause-path_length_after : goal.returns-clause-path_length_after
returns-clause-path_length_after c = search done_length

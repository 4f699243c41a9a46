-- The fields of segmap.rs, in the order of its structs.
use Rattle.std.specs.Prelude.{ℕ, List}
use Rattle.spec_base.specs.base.Ascii.{ascii}

abbrev pub timescale_name : List ℕ
timescale_name = ascii "video_timescale"

abbrev pub rate_num_name : List ℕ
rate_num_name = ascii "frame_rate_num"

abbrev pub rate_den_name : List ℕ
rate_den_name = ascii "frame_rate_den"

abbrev pub input_name : List ℕ
input_name = ascii "input"

abbrev pub frames_name : List ℕ
frames_name = ascii "total_frames"

abbrev pub segments_name : List ℕ
segments_name = ascii "segments"

abbrev pub first_name : List ℕ
first_name = ascii "source_start_frame"

abbrev pub last_name : List ℕ
last_name = ascii "source_end_frame"

abbrev pub source_name : List ℕ
source_name = ascii "source_start_dts"

abbrev pub count_name : List ℕ
count_name = ascii "frame_count"

abbrev pub output_name : List ℕ
output_name = ascii "output_start"

abbrev pub duration_name : List ℕ
duration_name = ascii "duration"

-- a path of at most 1,024 bytes; 2^64 - 1
abbrev pub most_path : ℕ
most_path = 1024

abbrev pub most_word : ℕ
most_word = 18446744073709551615

-- The limits of document 01, each under one name. `src/limits.rt` has the same as constants.
use Rattle.std.specs.Prelude.{ℕ, ◌*◌, ◌^◌}

-- ---- the frame sheet (13)
-- T, ticks a second, in a sheet of the first layout
abbrev pub most_sheet_timescale : ℕ
most_sheet_timescale = 1000000

-- n, the frame count
abbrev pub most_frames : ℕ
most_frames = 1048576

-- the work bytes of its check that are always enough: a bit for each frame (16)
abbrev pub most_work : ℕ
most_work = 131072

-- ---- the trim list (7, and 16 for the lent places)
abbrev pub most_list_bytes : ℕ
most_list_bytes = 65536

abbrev pub most_trims : ℕ
most_trims = 1024

-- the lent places for a list's ranges, two numbers each
abbrev pub most_places : ℕ
most_places = 2 * most_trims

-- the largest frame number, and number of a frame that is read: 2^32 - 1
abbrev pub most_frame : ℕ
most_frame = 4294967295

-- ---- conversions (15 for T, 16 for the value)
-- T in conversions and sessions, and in a sheet of the second layout (13)
abbrev pub most_timescale : ℕ
most_timescale = 1000000000

abbrev pub most_units : ℕ
most_units = 2 ^ 36

-- also the ends of a map (15), and what the durations of a sheet or a map have together (26)
abbrev pub most_ticks : ℕ
most_ticks = 2 ^ 53

-- ---- the map (15, and 16 for the lent records)
abbrev pub most_segments : ℕ
most_segments = 1024

-- ---- a time of a caption (22): its hours, minutes and seconds
abbrev pub most_hours : ℕ
most_hours = 9999

abbrev pub most_minutes : ℕ
most_minutes = 59

abbrev pub most_seconds : ℕ
most_seconds = 59

-- ---- the session
-- bytes of a piece that is fed, of an output and 64-bit places that are lent (16)
abbrev pub most_piece : ℕ
most_piece = 1024

abbrev pub least_output : ℕ
least_output = 32768

abbrev pub least_places : ℕ
least_places = 4096

-- bytes fed altogether (16, 17)
abbrev pub most_taken : ℕ
most_taken = 2 ^ 30

-- a line with its terminator and BOM (19), and the non-blank lines of a block (21)
abbrev pub most_line : ℕ
most_line = 4096

abbrev pub most_block : ℕ
most_block = 4096

-- columns of an ASS format line, and the bytes that a session has room to hold (17)
abbrev pub most_columns : ℕ
most_columns = 4096

abbrev pub most_held : ℕ
most_held = 8192

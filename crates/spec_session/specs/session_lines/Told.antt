-- What the private functions hand back.
use Rattle.std.specs.Prelude.{Bool, false, ℕ, ◌+◌}
use Rattle.spec_caption.specs.declared.caption_fate.Counted.{Counted}
use Rattle.spec_caption.specs.caption_fate.Cases.{counted_adds}
use Rattle.spec_ass.specs.declared.ass_columns.Columns.{Columns}
use Rattle.spec_machine.specs.declared.session_counts.Counts.{Counts}
use Rattle.spec_machine.specs.session_counts.Counts.{count_if}
use Rattle.spec_session.specs.declared.session_lines.Taken.{Taken}
use Rattle.spec_session.specs.declared.session_lines.Ended.{Ended}

-- the counts with a caption that is counted so
abbrev pub count_by : Counted → Counts → Counts
count_by k c =
    record {
      shifted = count_if (counted_adds k).shifted c.shifted;
      clipped = count_if (counted_adds k).clipped c.clipped;
      dropped = count_if (counted_adds k).dropped c.dropped;
      passed = count_if (counted_adds k).passed c.passed;
    }

-- a line that wrote nothing
abbrev pub quiet_line : ℕ → (added : Bool) → Counts → Columns → Taken
quiet_line k a t c = record { number = k; skip = 0; added = a; counts = t; columns = c; written = 0; warned = 0 }

-- the end of a block that wrote nothing
abbrev pub quiet_end : ℕ → Counts → Ended
quiet_end k t = record { number = k; counts = t; written = 0; warned = 0 }

-- a blank line that ended a block, with j bytes of both
abbrev pub blank_line : Columns → Ended → (j : ℕ) → Taken
blank_line c e j = record { number = 0; skip = 0; added = false; counts = e.counts; columns = c; written = j; warned = e.warned }

-- a line that passed behind a BOM
abbrev pub behind_line : Taken → Taken
behind_line r = record { number = 0; skip = 3; added = r.added; counts = r.counts; columns = r.columns; written = 3 + r.written; warned = r.warned }

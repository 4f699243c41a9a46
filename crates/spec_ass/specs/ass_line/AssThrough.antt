-- What the code answers to an ASS line at every input: the line said, then put through the map.
use Rattle.std.specs.Prelude.{cond, List, ℕ, ◌*◌, ltb, length}
use Rattle.spec_map.specs.declared.segment.Segment.{Segment}
use Rattle.spec_caption.specs.declared.caption_fate.Config.{Config}
use Rattle.spec_caption.specs.declared.caption_fate.Told.{Told}
use Rattle.spec_caption.specs.declared.caption_fate.Counted.TheVariants.{Nothing}
use Rattle.spec_caption.specs.caption_fate.Says.{fault_number}
use Rattle.spec_caption.specs.caption_fate.Emit.{emit_of}
use Rattle.spec_caption.specs.caption_fate.Told.{Answer, refusal, answered, part_in}
use Rattle.spec_ass.specs.declared.ass_columns.Columns.{Columns}
use Rattle.spec_ass.specs.ass_line.Line.{LineSays, faulty, says, line_says}

-- the columns after a line: as they were where it is faulty
abbrev pub columns_after : Columns → LineSays → Columns
columns_after c (faulty f) = c
columns_after c (says d p) = d

-- by document 01: a fault's number, or what the part becomes through the map
abbrev pub line_answer : Config → List Segment → LineSays → Answer
line_answer s m (faulty f) = refusal (fault_number f)
line_answer s m (says c p) = answered (emit_of s m p)

-- by the code, at every input; within the limits both are the same (`line_fine`)
abbrev pub line_answer_in : Config → List Segment → LineSays → Answer
line_answer_in s m (faulty f) = refusal (fault_number f)
line_answer_in s m (says c p) = part_in s m p

-- 16 where the lent output has less than three bytes for each of the line, or fewer than four warning places
unfoldable pub line_in : Config → List Segment → Columns → (n : ℕ) → (l : List ℕ) → (room places : ℕ) → Answer
line_in s m c n l room places =
    cond (ltb room (3 * length l)) (refusal 16)
    (cond (ltb places 4) (refusal 16)
    (line_answer_in s m (line_says c n l)))

-- the columns for the next line
unfoldable pub columns_next : Columns → (n : ℕ) → (l : List ℕ) → (room places : ℕ) → Columns
columns_next c n l room places =
    cond (ltb room (3 * length l)) c
    (cond (ltb places 4) c
    (columns_after c (line_says c n l)))

-- a line that stays, handed back
abbrev pub stayed_with : ℕ → Told
stayed_with k = record { number = 0; counted = Nothing; written = k; warned = 0 }

-- What the code answers to a block at every input: the block said, then put through the map.
use Rattle.std.specs.Prelude.{cond, List, ℕ, suc, ◌+◌, ◌*◌, ◌-◌, ltb, length, Option, Some, None}
use Rattle.spec_text.specs.text.Line.{lines_of, line_count}
use Rattle.spec_map.specs.declared.segment.Segment.{Segment}
use Rattle.spec_caption.specs.declared.caption_fate.Config.{Config}
use Rattle.spec_caption.specs.caption_fate.Says.{fault_number}
use Rattle.spec_caption.specs.caption_fate.Emit.{emit_of}
use Rattle.spec_caption.specs.caption_fate.Told.{Answer, refusal, answered, part_in}
use Rattle.spec_cue.specs.declared.block_cue.Times.{Times}
use Rattle.spec_cue.specs.block_timing.Style.{style_of}
use Rattle.spec_cue.specs.block_cue.Block.{BlockSays, faulty, says, block_says}
use Rattle.spec_time.specs.declared.caption_stamp.Stamp.{Stamp}

-- by document 01: a fault's number, or what the part becomes through the map
abbrev pub block_answer : Config → List Segment → BlockSays → Answer
block_answer s m (faulty f) = refusal (fault_number f)
block_answer s m (says p) = answered (emit_of s m p)

-- by the code, at every input; within the limits both are the same (`block_fine`)
abbrev pub block_answer_in : Config → List Segment → BlockSays → Answer
block_answer_in s m (faulty f) = refusal (fault_number f)
block_answer_in s m (says p) = part_in s m p

-- 16 where the lent output has less than three bytes for each of the block, or fewer than four warning places
unfoldable pub block_in : Config → List Segment → (first : ℕ) → (block : List ℕ) → (room places : ℕ) → Answer
block_in s m first b room places =
    cond (ltb room (3 * length b)) (refusal 16)
    (cond (ltb places 4) (refusal 16)
    (block_answer_in s m (block_says (style_of s.kind) first (lines_of b))))

-- what is read of a start and an end
abbrev pub times_read : Option Stamp → Option Stamp → Option Times
times_read None y = None
times_read (Some S) None = None
times_read (Some S) (Some E) = Some (record { start = S.units; start_mark = S.mark; stop = E.units; stop_mark = E.mark })

-- the number of the line behind the first k of a block that ends with the last-th line
abbrev pub number_in : (last k : ℕ) → (block : List ℕ) → ℕ
number_in last k b = (suc last - line_count (lines_of b)) + k

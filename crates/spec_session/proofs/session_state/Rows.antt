-- 17 by rows, of SRT sessions: one that is ours, and beside it one for each thing that can't be.
use mathlib.Core.Path.{◌≡◌, refl}
use mathlib.Core.Bool.{Bool, true, false}
use mathlib.Core.List.{List, [], ◌∷◌, ◌++◌}
use Prim.Native.Nat.{ℕ}
use lib.ListN.{replicate}
use Rattle.spec_text.specs.utf8.Utf8.{lead_len, second_low, second_high, tail, width_by, char_width, code_by, code_head, utf8_from, utf8}
use Rattle.spec_text.specs.whitespace.White.{white_high, white, white_head, head_from, trim_head}
use Rattle.spec_text.specs.text.Line.{blank}
use Rattle.spec_time.specs.caption_time.Kind.{kind_bad}
use Rattle.spec_time.specs.caption_time.Convert.{timescale_bad}
use Rattle.spec_ass.specs.declared.ass_columns.Columns.{Columns}
use Rattle.spec_cue.specs.block_timing.Style.{blank_in}
use Rattle.spec_machine.specs.session_counts.Counts.{no_counts}
use Rattle.spec_machine.specs.session_counts.Session.{Session, is_outcome, outcome_bad, foreign}
use Rattle.spec_machine.specs.kinds.Takes.{no_columns}
use Rattle.spec_machine.specs.kinds.Kit.{kit, held_bad, columns_bad}

-- an SRT session that has taken 5,000 bytes
abbrev at : (timescale lines outcome : ℕ) → (ended : Bool) → (held : List ℕ) → Session Columns
at T n k e h = record { config = record { kind = 1; timescale = T }; taken = 5000; lines = n; held = h; known = no_columns; counts = no_counts; outcome = k; ended = e }

-- ours; T of 0; more lines than bytes taken; more LFs held than lines ended; an outcome before the end, at the end, and none of a text's; a blank line held
pub foreign_rows :
    foreign kit (at 1000 2 0 false (97 ∷ 10 ∷ 98 ∷ 10 ∷ 99 ∷ []))
    ∷ foreign kit (at 0 2 0 false (97 ∷ 10 ∷ 98 ∷ 10 ∷ 99 ∷ []))
    ∷ foreign kit (at 1000 5001 0 false (97 ∷ 10 ∷ 98 ∷ 10 ∷ 99 ∷ []))
    ∷ foreign kit (at 1000 1 0 false (97 ∷ 10 ∷ 98 ∷ 10 ∷ 99 ∷ []))
    ∷ foreign kit (at 1000 2 20 false [])
    ∷ foreign kit (at 1000 0 20 true [])
    ∷ foreign kit (at 1000 0 23 true [])
    ∷ foreign kit (at 1000 2 0 false (97 ∷ 10 ∷ 32 ∷ 10 ∷ 99 ∷ []))
    ∷ []
    ≡ false ∷ true ∷ true ∷ true ∷ true ∷ false ∷ true ∷ true ∷ []
unfolding kind_bad timescale_bad is_outcome outcome_bad held_bad columns_bad blank_in blank trim_head head_from white_head white white_high code_head code_by char_width width_by lead_len second_low second_high tail utf8 utf8_from
foreign_rows = refl

-- an unfinished line of 4,096 bytes, and of 4,097
pub held_rows : held_bad 1 (97 ∷ 10 ∷ replicate 4096 98) ∷ held_bad 1 (97 ∷ 10 ∷ replicate 4097 98) ∷ [] ≡ false ∷ true ∷ []
unfolding held_bad blank_in blank trim_head head_from white_head white white_high code_head code_by char_width width_by lead_len second_low second_high tail utf8 utf8_from
held_rows = refl

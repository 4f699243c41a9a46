-- How a session keeps what is known between two lines, and what it can't hold (17).
use Rattle.std.specs.Prelude.{Bool, false, ◌||◌, not, cond, List, [], ◌∷◌, ◌++◌, ℕ, ltb, eqb, length}
use Rattle.spec_base.specs.base.Limits.{most_line, most_block, most_columns}
use Rattle.spec_text.specs.utf8.Utf8.{utf8}
use Rattle.spec_text.specs.text.Line.{concat, has_lf}
use Rattle.spec_ass.specs.declared.ass_columns.Columns.{Columns}
use Rattle.spec_cue.specs.block_timing.Style.{blank_in}
use Rattle.spec_machine.specs.session_counts.Cut.{closed_lines, unfinished}
use Rattle.spec_machine.specs.session_counts.Session.{Kit}
use Rattle.spec_machine.specs.session_counts.Reader.{Reading, read_text}
use Rattle.spec_machine.specs.kinds.Takes.{State, machine_of}

-- ---- held bytes that can't be
-- a finished line that is blank or not UTF-8
abbrev pub lines_bad : (kind : ℕ) → List (List ℕ) → Bool
lines_bad kind [] = false
lines_bad kind (l ∷ ls) = (blank_in kind l || not (utf8 l)) || lines_bad kind ls

-- ASS: above 4,096, or with LF. SRT and WebVTT: finished lines above 4,096 together, blank or not UTF-8, or an unfinished one above 4,096
unfoldable pub held_bad : (kind : ℕ) → (held : List ℕ) → Bool
held_bad kind held =
    cond (eqb kind 0) (ltb most_line (length held) || has_lf held)
    (ltb most_block (length (concat (closed_lines held))) || (lines_bad kind (closed_lines held) || ltb most_line (length (unfinished held))))

-- columns above 4,096, or a place (from 1; 0: absent) past the columns
unfoldable pub columns_bad : Columns → Bool
columns_bad c = ltb most_columns c.columns || (ltb c.columns c.start || ltb c.columns c.«end»)

abbrev pub strange : (kind : ℕ) → Columns → (held : List ℕ) → Bool
strange kind c held = columns_bad c || held_bad kind held

-- ---- held bytes: the open block's lines, each with its LF, then the unfinished line
abbrev pub kit : Kit State Columns
kit =
    record {
      machine = λ kind. machine_of kind;
      known = λ s. s.columns;
      pack = λ s h. concat s.block ++ h;
      state = λ c held. record { columns = c; block = closed_lines held };
      open_line = λ held. unfinished held;
      strange = λ kind c held. strange kind c held;
    }

-- what a text says, finished or not: the first fault, and the parts before its line or block
abbrev pub said : (kind : ℕ) → (finished : Bool) → (text : List ℕ) → Reading
said kind finished text = read_text (machine_of kind) finished text

-- What a line, and the end of a block, tell at every input: what document 01 says of them, put through the map as the code decides it.
use Rattle.std.specs.Prelude.{◌≡◌, Bool, true, false, ◌||◌, ◌&&◌, not, cond, List, [], ◌∷◌, ℕ, ◌*◌, ◌^◌, ltb, eqb, length, take, drop}
use Rattle.spec_base.specs.base.Put.{put}
use Rattle.spec_text.specs.text.Line.{lines_of}
use Rattle.spec_map.specs.declared.segment.Segment.{Segment}
use Rattle.spec_caption.specs.declared.caption_fate.Config.{Config}
use Rattle.spec_caption.specs.caption_fate.Says.{Part, bad_header, fault_number}
use Rattle.spec_caption.specs.caption_fate.Emit.{Emit, output_of, warnings_of, places_of}
use Rattle.spec_caption.specs.caption_fate.Told.{part_in}
use Rattle.spec_ass.specs.declared.ass_columns.Columns.{Columns}
use Rattle.spec_cue.specs.block_timing.Style.{style_of}
use Rattle.spec_cue.specs.block_timing.Header.{header_due}
use Rattle.spec_machine.specs.declared.session_counts.Counts.{Counts}
use Rattle.spec_machine.specs.session_counts.Counts.{count_all}
use Rattle.spec_machine.specs.session_counts.Machine.{has_bom, Says, faulty, says, take_line}
use Rattle.spec_machine.specs.session_counts.Session.{counts_above}
use Rattle.spec_machine.specs.kinds.Takes.{State, blank_state, closes, machine_of}
use Rattle.spec_session.specs.declared.session_lines.Taken.{Taken}
use Rattle.spec_session.specs.declared.session_lines.Ended.{Ended}

-- ---- parts in a row, as the code decides them
-- one of them meets a segment past the limits
unfoldable pub strange_in : Config → List Segment → List Part → Bool
strange_in c m [] = false
strange_in c m (p ∷ ps) = not (eqb (part_in c m p).number 0) || strange_in c m ps

unfoldable pub emitted_in : Config → List Segment → List Part → List Emit
emitted_in c m [] = []
emitted_in c m (p ∷ ps) = (part_in c m p).emitted ∷ emitted_in c m ps

-- ---- an answer: the number, and what is emitted (nothing where the number is not 0)
pub record PartsAnswer : Type 0 where
  pub number : ℕ
  pub emitted : List Emit

abbrev pub parts_refusal : ℕ → PartsAnswer
parts_refusal k = record { number = k; emitted = [] }

-- a fault's number, 15 for a segment past the limits, or what the parts emit
abbrev pub answer_in : Config → List Segment → Says State → PartsAnswer
answer_in c m (faulty f) = parts_refusal (fault_number f)
answer_in c m (says s ps) = cond (strange_in c m ps) (parts_refusal 15) (record { number = 0; emitted = emitted_in c m ps })

-- a line's answer: besides, the columns for the next line, the bytes of a BOM before it, and whether it joins the open block
pub record LineAnswer : Type 0 where
  pub said : PartsAnswer
  pub columns : Columns
  pub skip : ℕ
  pub added : Bool

-- the columns stay
abbrev pub line_refusal : ℕ → Columns → LineAnswer
line_refusal n k = record { said = parts_refusal n; columns = k; skip = 0; added = false }

abbrev pub is_open : (block : List (List ℕ)) → Bool
is_open [] = false
is_open (l ∷ ls) = true

abbrev pub taken_in : Config → List Segment → Columns → (skip : ℕ) → Says State → LineAnswer
taken_in c m k b (faulty f) = line_refusal (fault_number f) k
taken_in c m k b (says s ps) =
    cond (strange_in c m ps) (line_refusal 15 k)
    (record { said = record { number = 0; emitted = emitted_in c m ps }; columns = s.columns; skip = b; added = is_open s.block })

-- ---- 16
-- so that one more caption can be counted
abbrev pub most_count : ℕ
most_count = 2 ^ 31

-- the lent output has less than three bytes for each of k, fewer than four places are lent, or a count is too high
unfoldable pub lent_bad : Counts → (k room places : ℕ) → Bool
lent_bad t k room places = ltb room (3 * k) || (ltb places 4 || counts_above most_count t)

-- a header that never came, or the end of the open block
abbrev pub text_ends : (kind n : ℕ) → (block : List (List ℕ)) → Says State
text_ends kind n b = cond (header_due kind n b) (faulty bad_header) (closes (style_of kind) blank_state n b [])

-- ---- the end of a text of blocks: the open block's lines, with the bytes b, end with the n-th line of the text
unfoldable pub end_in : Config → List Segment → (n : ℕ) → Counts → (b : List ℕ) → (room places : ℕ) → PartsAnswer
end_in c m n t b room places =
    cond (lent_bad t (length b) room places) (parts_refusal 16)
    (answer_in c m (text_ends c.kind n (lines_of b)))

-- ---- a line
-- what is known before it: the columns, and in SRT and WebVTT the lines of the open block, with the bytes b
abbrev pub state_of : (kind : ℕ) → Columns → (b : List ℕ) → State
state_of kind k b = record { columns = k; block = cond (eqb kind 0) [] (lines_of b) }

-- the bytes of the BOM that begins a line: 3 or 0
unfoldable pub bom_size : (n : ℕ) → List ℕ → ℕ
bom_size n l = cond (eqb n 0 && has_bom l) 3 0

-- n lines came before it; it is held from s on, behind the open block
unfoldable pub take_in : Config → List Segment → (n : ℕ) → Counts → Columns → (held : List ℕ) → (s room places : ℕ) → LineAnswer
take_in c m n t k held s room places =
    cond (ltb (length held) s || lent_bad t (length held) room places) (line_refusal 16 k)
    (taken_in c m k (bom_size n (drop s held)) (take_line (machine_of c.kind) (state_of c.kind k (take s held)) n (drop s held)))

-- ---- what the code hands back, and leaves in the lent output and in the lent places; t: the counts before
pub record EndTells (a : PartsAnswer) (t : Counts) (r : Ended) (out out' places places' : List ℕ) : Type 0 where
  pub number : r.number ≡ a.number
  pub counts : r.counts ≡ count_all t a.emitted
  pub written : r.written ≡ length (output_of a.emitted)
  pub warned : r.warned ≡ length (places_of (warnings_of a.emitted))
  pub text : out' ≡ put (output_of a.emitted) out
  pub warnings : places' ≡ put (places_of (warnings_of a.emitted)) places

abbrev pub ended_by : Taken → Ended
ended_by r = record { number = r.number; counts = r.counts; written = r.written; warned = r.warned }

pub record LineTells (a : LineAnswer) (t : Counts) (r : Taken) (out out' places places' : List ℕ) : Type 0 where
  pub said : EndTells a.said t (ended_by r) out out' places places'
  pub columns : r.columns ≡ a.columns
  pub skip : r.skip ≡ a.skip
  pub added : r.added ≡ a.added

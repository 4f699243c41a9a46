-- What a line, and a finish, say in each kind by the text alone: 20, 24 or 21, 22 in this order, else the parts. Kind 0 is ASS, 1 SRT, 2 WebVTT.
use Rattle.std.specs.Prelude.{Bool, true, false, cond, List, [], ◌∷◌, ◌++◌, ℕ, suc, ◌+◌, ◌-◌, leb, eqb, length}
use Rattle.spec_base.specs.base.Limits.{most_block}
use Rattle.spec_text.specs.utf8.Utf8.{utf8}
use Rattle.spec_text.specs.text.Line.{concat, line_count}
use Rattle.spec_caption.specs.caption_fate.Says.{Part, stays, not_utf8, long_block, bad_header}
use Rattle.spec_ass.specs.declared.ass_columns.Columns.{Columns}
pub use Rattle.spec_ass.specs.ass_columns.Columns.{no_columns}
use Rattle.spec_ass.specs.ass_line.Line.{LineSays, line_says, faulty as lineFaulty, says as line_said}
use Rattle.spec_cue.specs.block_timing.Style.{Style, style_of}
use Rattle.spec_cue.specs.block_timing.Header.{is_header, header_due}
use Rattle.spec_cue.specs.block_cue.Block.{BlockSays, block_says, faulty as blockFaulty, says as block_said}
use Rattle.spec_machine.specs.session_counts.Machine.{Machine, Says, faulty, says}

-- between two lines: the section and the columns of ASS; the lines of an open block, each with its terminator
pub record State : Type 0 where
  pub columns : Columns
  pub block : List (List ℕ)

-- at first outside Events, columns unknown, no block
abbrev pub blank_state : State
blank_state = record { columns = no_columns; block = [] }

-- ---- ASS: each line speaks for itself
abbrev pub of_line : State → LineSays → Says State
of_line s (lineFaulty f) = faulty f
of_line s (line_said c p) = says (record { columns = c; block = s.block }) (p ∷ [])

unfoldable pub line_takes : State → (n : ℕ) → List ℕ → Says State
line_takes s n l = cond (utf8 l) (of_line s (line_says s.columns n l)) (faulty not_utf8)

-- ---- SRT and WebVTT: a blank line ends the block
abbrev pub with_block : List (List ℕ) → State → State
with_block b s = record { columns = s.columns; block = b }

abbrev pub of_block : State → (more : List Part) → BlockSays → Says State
of_block s more (blockFaulty f) = faulty f
of_block s more (block_said p) = says (with_block [] s) (p ∷ more)

-- the open block's lines end with the n-th line of the text; then come the parts `more`
abbrev pub closes : Style → State → (n : ℕ) → (block : List (List ℕ)) → (more : List Part) → Says State
closes k s n [] more = says (with_block [] s) more
closes k s n (l ∷ ls) more = of_block s more (block_says k (suc n - line_count (l ∷ ls)) (l ∷ ls))

abbrev pub adds : (short : Bool) → State → List ℕ → Says State
adds true s l = says (with_block (s.block ++ (l ∷ [])) s) []
adds false s l = faulty long_block

unfoldable pub block_takes : Style → State → (n : ℕ) → List ℕ → Says State
block_takes k s n l =
    cond (utf8 l)
    (cond (k.blank l) (closes k s n s.block (stays l ∷ [])) (adds (leb (length (concat s.block) + length l) most_block) s l))
    (faulty not_utf8)

-- ---- WebVTT: the first line is in no block and stays
unfoldable pub head_takes : State → List ℕ → Says State
head_takes s l = cond (utf8 l) (cond (is_header l) (says s (stays l ∷ [])) (faulty bad_header)) (faulty not_utf8)

-- ---- by kind
unfoldable pub takes : (kind : ℕ) → State → (n : ℕ) → List ℕ → Says State
takes kind s n l =
    cond (eqb kind 0) (line_takes s n l)
    (cond (header_due kind n s.block) (head_takes s l) (block_takes (style_of kind) s n l))

-- a finish after n lines: it ends the open block; a header that never came is 24
unfoldable pub block_ends : (kind : ℕ) → State → (n : ℕ) → Says State
block_ends kind s n = cond (header_due kind n s.block) (faulty bad_header) (closes (style_of kind) s n s.block [])

unfoldable pub ends : (kind : ℕ) → State → (n : ℕ) → Says State
ends kind s n = cond (eqb kind 0) (says s []) (block_ends kind s n)

abbrev pub machine_of : (kind : ℕ) → Machine State
machine_of kind = record { start = blank_state; step = λ s n l. takes kind s n l; close = λ s n. ends kind s n }

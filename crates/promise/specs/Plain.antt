-- Document 01's plain reader of a whole text, by lines and blocks. It shares with the session only what one ASS line and one closed block say.
use Rattle.std.specs.Prelude.{Bool, true, false, ◌&&◌, ◌||◌, not, cond, List, [], ◌∷◌, ◌++◌, ℕ, zero, suc, ◌+◌, leb, eqb, length}
use Rattle.spec_base.specs.base.Limits.{most_line, most_block}
use Rattle.spec_base.specs.base.Refusal.{◌or_else◌, fault_unless}
use Rattle.spec_text.specs.utf8.Utf8.{utf8}
use Rattle.spec_text.specs.pattern.Find.{starts, equals}
use Rattle.spec_text.specs.text.Line.{lines_of, line_count, text_of}
use Rattle.spec_caption.specs.caption_fate.Says.{Part, stays, fault_number}
use Rattle.spec_caption.specs.caption_fate.Bom.{starts_bom, behind_bom, bom_written}
use Rattle.spec_ass.specs.declared.ass_columns.Columns.{Columns}
use Rattle.spec_ass.specs.ass_line.Line.{LineSays, line_says, faulty as lineFaulty, says as line_said}
use Rattle.spec_ass.specs.ass_columns.Columns.{no_columns}
use Rattle.spec_cue.specs.block_timing.Style.{style_of, blank_in}
use Rattle.spec_cue.specs.block_cue.Block.{BlockSays, block_says, faulty as blockFaulty, says as block_said}
use Rattle.spec_format.specs.whole.Srt.{Block, blocks_of}
use Rattle.spec_machine.specs.session_counts.Cut.{closed_lines, unfinished}
use Rattle.spec_machine.specs.session_counts.Reader.{Reading, fails, ◌⊕◌}

-- ---- the bytes that a leading BOM adds to the first line
abbrev pub bom_length : List ℕ → ℕ
bom_length text = cond (starts_bom text) 3 0

-- ---- the checks of a line: 19 (x bytes of BOM stand before it), 20, and for a line of a block 21 (size bytes of the block came before it)
unfoldable pub line_fault : (x : ℕ) → List ℕ → ℕ
line_fault x l = fault_unless (leb (x + length l) most_line) 19 or_else fault_unless (utf8 l) 20

unfoldable pub body_line_fault : (x size : ℕ) → List ℕ → ℕ
body_line_fault x size l = line_fault x l or_else fault_unless (leb (size + length l) most_block) 21

-- a reading, unless a fault comes before it
abbrev pub unless_fault : ℕ → Reading → Reading
unless_fault zero r = r
unless_fault (suc k) r = fails (suc k)

-- ---- ASS: line by line; n lines came before, and `end` is what comes behind the last one
abbrev pub line_then : LineSays → (Columns → Reading) → Reading
line_then (lineFaulty f) after = fails (fault_number f)
line_then (line_said c p) after = (p ∷ []) ⊕ after c

unfoldable pub ass_read : (end : Reading) → (x : ℕ) → Columns → (n : ℕ) → List (List ℕ) → Reading
ass_read end x c n [] = end
ass_read end x c n (l ∷ ls) = unless_fault (line_fault x l) (line_then (line_says c n l) (λ d. ass_read end 0 d (suc n) ls))

-- ---- SRT and WebVTT: block by block
-- the first fault of a block's non-blank lines
unfoldable pub body_fault : (x size : ℕ) → List (List ℕ) → ℕ
body_fault x size [] = 0
body_fault x size (l ∷ ls) = body_line_fault x size l or_else body_fault 0 (size + length l) ls

-- what the block says (22), and what comes after it; n lines came before the block
abbrev pub block_then : BlockSays → Reading → Reading
block_then (blockFaulty f) after = fails (fault_number f)
block_then (block_said p) after = (p ∷ []) ⊕ after

abbrev pub body_then : (kind n : ℕ) → (body : List (List ℕ)) → Reading → Reading
body_then kind n [] after = after
body_then kind n (l ∷ ls) after = block_then (block_says (style_of kind) (suc n) (l ∷ ls)) after

-- blank lines stay
abbrev pub blanks_then : List (List ℕ) → Reading → Reading
blanks_then [] after = after
blanks_then (l ∷ ls) after = unless_fault (line_fault 0 l) ((stays l ∷ []) ⊕ blanks_then ls after)

-- the bytes of BOM before the line behind some lines: only a first line has them
abbrev pub bom_behind : (x : ℕ) → List (List ℕ) → ℕ
bom_behind x [] = x
bom_behind x (l ∷ ls) = 0

-- a block ends at its first blank line, behind that line's own checks, or at finish; one that neither has closed is left out
abbrev pub closes_block : (kind : ℕ) → (finished : Bool) → (x n : ℕ) → (body blanks : List (List ℕ)) → Reading → Reading
closes_block kind true x n body [] after = body_then kind n body after
closes_block kind false x n body [] after = after
closes_block kind f x n body (l ∷ ls) after = unless_fault (line_fault (bom_behind x body) l) (body_then kind n body ((stays l ∷ []) ⊕ blanks_then ls after))

unfoldable pub blocks_read : (kind : ℕ) → (finished : Bool) → (end : Reading) → (x n : ℕ) → List Block → Reading
blocks_read kind f end x n [] = end
blocks_read kind f end x n (b ∷ bs) =
    unless_fault (body_fault x 0 b.body)
    (closes_block kind f x n b.body b.blanks (blocks_read kind f end 0 (n + line_count b.body + line_count b.blanks) bs))

-- ---- WebVTT: the first line, then blocks
-- `WEBVTT`; the first line is this word, or goes on behind it with a space or a tab
abbrev pub head_word : List ℕ
head_word = 87 ∷ 69 ∷ 66 ∷ 86 ∷ 84 ∷ 84 ∷ []

unfoldable pub headed : (text : List ℕ) → Bool
headed t = equals head_word t || (starts (head_word ++ 32 ∷ []) t || starts (head_word ++ 9 ∷ []) t)

-- its checks: 19, 20, then 24
unfoldable pub head_fault : (x : ℕ) → List ℕ → ℕ
head_fault x l = line_fault x l or_else fault_unless (headed (text_of l)) 24

-- it stays and is in no block; a text that ends without a line has no first line
unfoldable pub vtt_read : (finished : Bool) → (end : Reading) → (x : ℕ) → List (List ℕ) → Reading
vtt_read f end x [] = cond f (fails 24) end
vtt_read f end x (l ∷ ls) = unless_fault (head_fault x l) ((stays l ∷ []) ⊕ blocks_read 2 f end 0 1 (blocks_of 2 ls))

-- ---- the text
-- each line that LF closes, after a finish the rest too
abbrev pub lines_read : (finished : Bool) → List ℕ → List (List ℕ)
lines_read true t = lines_of t
lines_read false t = closed_lines t

unfoldable pub lines_say : (kind : ℕ) → (finished : Bool) → (end : Reading) → (x : ℕ) → List (List ℕ) → Reading
lines_say kind f end x ls =
    cond (eqb kind 0) (ass_read end x no_columns 0 ls)
    (cond (eqb kind 2) (vtt_read f end x ls)
    (blocks_read kind f end x 0 (blocks_of kind ls)))

-- until a finish the rest is only tested for 19
abbrev pub rest_fault : (finished : Bool) → (x : ℕ) → (lines : List (List ℕ)) → (rest : List ℕ) → ℕ
rest_fault true x ls r = 0
rest_fault false x [] r = fault_unless (leb (x + length r) most_line) 19
rest_fault false x (l ∷ ls) r = fault_unless (leb (length r) most_line) 19

-- the BOM is written back where the first line passes its checks (19 and 20; in SRT also 21, in WebVTT 24), or, but for WebVTT, at finish where there is no line
abbrev pub first_fault : (kind x : ℕ) → List ℕ → ℕ
first_fault kind x l =
    cond (eqb kind 0) (line_fault x l)
    (cond (eqb kind 2) (head_fault x l)
    (cond (blank_in kind l) (line_fault x l) (body_line_fault x 0 l)))

abbrev pub opened : (kind : ℕ) → (finished : Bool) → (x : ℕ) → List (List ℕ) → Bool
opened kind f x [] = f && not (eqb kind 2)
opened kind f x (l ∷ ls) = eqb (first_fault kind x l) 0

module _ (kind : ℕ) (finished : Bool) where
  -- t: the text behind its BOM of x bytes
  abbrev pub read_behind : (x : ℕ) → (t : List ℕ) → Reading
  read_behind x t = lines_say kind finished (fails (rest_fault finished x (closed_lines t) (unfinished t))) x (lines_read finished t)

  abbrev pub bom_back : (text : List ℕ) → List Part
  bom_back text = bom_written (starts_bom text && opened kind finished (bom_length text) (lines_read finished (behind_bom text)))

  unfoldable pub plain_read : (text : List ℕ) → Reading
  plain_read text = bom_back text ⊕ read_behind (bom_length text) (behind_bom text)

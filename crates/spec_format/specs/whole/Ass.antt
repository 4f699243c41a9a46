-- A whole ASS text as its public description and the Rust have it: line by line, the section and the columns carried on from line to line.
-- No limit of length and no test for UTF-8 stand here.
use Rattle.std.specs.Prelude.{List, [], ◌∷◌, ◌++◌, ℕ, suc}
use Rattle.spec_text.specs.text.Line.{lines_of}
use Rattle.spec_caption.specs.caption_fate.Says.{Part}
use Rattle.spec_caption.specs.caption_fate.Bom.{starts_bom, behind_bom, bom_written}
use Rattle.spec_ass.specs.declared.ass_columns.Columns.{Columns}
use Rattle.spec_ass.specs.ass_columns.Columns.{no_columns}
use Rattle.spec_ass.specs.ass_line.Line.{LineSays, faulty, says, line_says}
use Rattle.spec_ass.specs.ass_line.AssThrough.{columns_after}

-- a line's part, then the lines behind it by the section and columns that it leaves; a bad time ends the text, as the Rust does
abbrev pub said_then : LineSays → (Columns → List Part) → List Part
said_then (faulty f) after = []
said_then (says c p) after = p ∷ after c

-- lines with n lines before them
unfoldable pub lines_said : Columns → (n : ℕ) → List (List ℕ) → List Part
lines_said c n [] = []
lines_said c n (l ∷ ls) = said_then (line_says c n l) (λ d. lines_said d (suc n) ls)

-- the section and columns that they leave
unfoldable pub columns_behind : Columns → (n : ℕ) → List (List ℕ) → Columns
columns_behind c n [] = c
columns_behind c n (l ∷ ls) = columns_behind (columns_after c (line_says c n l)) (suc n) ls

-- a text: a BOM stays, and the lines stand behind it
unfoldable pub ass_said : List ℕ → List Part
ass_said text = bom_written (starts_bom text) ++ lines_said no_columns 0 (lines_of (behind_bom text))

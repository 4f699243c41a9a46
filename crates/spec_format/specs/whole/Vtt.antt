-- A whole WebVTT text by the rules of request 2.5: the first line, which stays and is in no block, then blocks as SRT's, by WebVTT's blank line,
-- times and end of the end time. No limit of length, no test for UTF-8 and none of the first line stand here.
use Rattle.std.specs.Prelude.{List, [], ◌∷◌, ◌++◌, ℕ}
use Rattle.spec_text.specs.text.Line.{lines_of}
use Rattle.spec_caption.specs.caption_fate.Says.{Part, stays}
use Rattle.spec_caption.specs.caption_fate.Bom.{starts_bom, behind_bom, bom_written}
use Rattle.spec_format.specs.whole.Srt.{blocks_of, blocks_said}

-- the first line, then the blocks behind it; one line came before them
abbrev pub head_said : List (List ℕ) → List Part
head_said [] = []
head_said (l ∷ ls) = stays l ∷ blocks_said 2 1 (blocks_of 2 ls)

-- a text: a BOM stays, and the lines stand behind it
unfoldable pub vtt_said : List ℕ → List Part
vtt_said text = bom_written (starts_bom text) ++ head_said (lines_of (behind_bom text))

-- A whole text of blocks: SRT as its public description and the Rust have it, its blocks one after the other, each decided by itself.
-- No limit of length and no test for UTF-8 stand here.
use Rattle.std.specs.Prelude.{cond, List, [], ◌∷◌, ◌++◌, map, ℕ, suc, ◌+◌}
use Rattle.spec_text.specs.text.Line.{lines_of, line_count}
use Rattle.spec_caption.specs.caption_fate.Says.{Part, stays}
use Rattle.spec_caption.specs.caption_fate.Bom.{starts_bom, behind_bom, bom_written}
use Rattle.spec_cue.specs.block_timing.Style.{style_of, blank_in}
use Rattle.spec_cue.specs.block_cue.Block.{BlockSays, faulty, says, block_says}

-- ---- a block is the non-blank lines, then the blank ones; blank lines at the head of a text are a block without a body
pub record Block : Type 0 where
  pub body : List (List ℕ)
  pub blanks : List (List ℕ)

abbrev pub block_of : (body blanks : List (List ℕ)) → Block
block_of body blanks = record { body = body; blanks = blanks }

-- from the last line back: a line that is not blank goes to the body of the block behind it
abbrev pub onto_block : List ℕ → List Block → List Block
onto_block l [] = block_of (l ∷ []) [] ∷ []
onto_block l (b ∷ bs) = block_of (l ∷ b.body) b.blanks ∷ bs

-- a blank line goes to the blank ones behind it; where a body stands behind it, it is the last line of the block before
abbrev pub onto_blanks : List ℕ → (body blanks : List (List ℕ)) → List Block → List Block
onto_blanks l [] blanks bs = block_of [] (l ∷ blanks) ∷ bs
onto_blanks l (k ∷ ks) blanks bs = block_of [] (l ∷ []) ∷ block_of (k ∷ ks) blanks ∷ bs

abbrev pub blank_onto : List ℕ → List Block → List Block
blank_onto l [] = block_of [] (l ∷ []) ∷ []
blank_onto l (b ∷ bs) = onto_blanks l b.body b.blanks bs

unfoldable pub blocks_of : (kind : ℕ) → List (List ℕ) → List Block
blocks_of kind [] = []
blocks_of kind (l ∷ ls) = cond (blank_in kind l) (blank_onto l (blocks_of kind ls)) (onto_block l (blocks_of kind ls))

-- ---- what blocks say
-- a block's part, then what comes behind it; a bad time ends the text, as the Rust does
abbrev pub block_said_then : BlockSays → List Part → List Part
block_said_then (faulty f) after = []
block_said_then (says p) after = p ∷ after

-- n lines came before the block
abbrev pub body_said : (kind n : ℕ) → (body : List (List ℕ)) → (after : List Part) → List Part
body_said kind n [] after = after
body_said kind n (l ∷ ls) after = block_said_then (block_says (style_of kind) (suc n) (l ∷ ls)) after

-- the block by itself, then its blank lines, which stay, then the blocks behind it
unfoldable pub blocks_said : (kind n : ℕ) → List Block → List Part
blocks_said kind n [] = []
blocks_said kind n (b ∷ bs) = body_said kind n b.body (map stays b.blanks ++ blocks_said kind (n + line_count b.body + line_count b.blanks) bs)

-- a text: a BOM stays, and the blocks stand behind it
abbrev pub text_blocks : List ℕ → List Block
text_blocks text = blocks_of 1 (lines_of (behind_bom text))

unfoldable pub srt_said : List ℕ → List Part
srt_said text = bom_written (starts_bom text) ++ blocks_said 1 0 (text_blocks text)

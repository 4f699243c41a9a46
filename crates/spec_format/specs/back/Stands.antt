-- The line or block of a caption as it was read: the caption's frame with two texts of the old bytes in the places of the times. So each byte that is written comes from the
-- old line, from a new time, or is the arrow.
use Rattle.std.specs.Prelude.{◌≡◌, List, [], ◌∷◌, ◌++◌, ℕ}
use Rattle.spec_text.specs.whitespace.White.{trim_head}
use Rattle.spec_time.specs.caption_stamp.Read.{stamp, time_in}
use Rattle.spec_caption.specs.caption_fate.Says.{Piece, bytes, start, stop, Cue}
use Rattle.spec_caption.specs.caption_fate.Emit.{render}
use Rattle.spec_cue.specs.block_timing.Arrow.{arrow}
use Rattle.spec_cue.specs.block_cue.Block.{block_frame}

-- ASS: two texts that read as the times, in the frame, are the line
pub record LineStands (line : List ℕ) (q : Cue) : Type 0 where
  pub start_text : List ℕ
  pub stop_text : List ℕ
  pub start_read : time_in 0 start_text ≡ stamp q.start q.start_mark
  pub stop_read : time_in 0 stop_text ≡ stamp q.stop q.stop_mark
  pub stands : render q.frame start_text stop_text ≡ line

-- blocks: the arrow is written anew (` --> `). As it stood, its space before it is the start text's, and behind it that which is trimmed at the head of what follows
abbrev pub old_frame : (before space trailing terminator after : List ℕ) → List Piece
old_frame before space trailing terminator after =
    bytes before ∷ start ∷ bytes (arrow ++ space) ∷ stop ∷ bytes trailing ∷ bytes terminator ∷ bytes after ∷ []

pub record BlockStands (kind : ℕ) (block : List ℕ) (q : Cue) : Type 0 where
  pub before : List ℕ
  pub space : List ℕ
  pub trailing : List ℕ
  pub terminator : List ℕ
  pub after : List ℕ
  pub start_text : List ℕ
  pub stop_text : List ℕ
  pub framed : q.frame ≡ block_frame before trailing terminator after
  pub start_read : time_in kind start_text ≡ stamp q.start q.start_mark
  pub stop_read : time_in kind stop_text ≡ stamp q.stop q.stop_mark
  pub trimmed : trim_head (space ++ (stop_text ++ trailing)) ≡ stop_text ++ trailing
  pub stands : render (old_frame before space trailing terminator after) start_text stop_text ≡ block

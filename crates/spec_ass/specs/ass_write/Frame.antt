-- The frame of a caption line around its two times, and the frame written into a lent output, piece by piece.
use Rattle.std.specs.Prelude.{cond, List, [], ◌∷◌, ◌++◌, ℕ, suc, ◌+◌, eqb, length}
use Rattle.spec_base.specs.base.Put.{placed_at, place_after}
use Rattle.spec_caption.specs.caption_fate.Says.{Piece, bytes, start, stop}
use Rattle.spec_ass.specs.declared.ass_columns.Columns.{Columns}
use Rattle.spec_text.specs.pattern.Piece.{comma}

-- the piece of the field at place k: the end's time, the start's, or the field as it stands. (Where both have one place, the end's wins.)
unfoldable pub piece_at : (start stop k : ℕ) → List ℕ → Piece
piece_at i j k f = cond (eqb k j) stop (cond (eqb k i) start (bytes f))

-- the fields from place k on, with commas between them
unfoldable pub field_pieces : (start stop k : ℕ) → List (List ℕ) → List Piece
field_pieces i j k [] = []
field_pieces i j k (f ∷ []) = piece_at i j k f ∷ []
field_pieces i j k (f ∷ g ∷ fs) = piece_at i j k f ∷ bytes comma ∷ field_pieces i j (suc k) (g ∷ fs)

-- the word, the fields and the terminator
abbrev pub line_frame : Columns → (word : List ℕ) → List (List ℕ) → (end : List ℕ) → List Piece
line_frame c word fs end = bytes word ∷ (field_pieces c.start c.«end» 1 fs ++ (bytes end ∷ []))

-- ---- written. A piece that does not fit is left out and the next one takes its place; where there is room, all are written (`frame_put`)
-- s and e: the texts of the start and of the end
module _ (s e : List ℕ) where
  unfoldable pub piece_text : Piece → List ℕ
  piece_text (bytes l) = l
  piece_text start = s
  piece_text stop = e

  -- the output after the pieces, written from the place at on, and the place after them
  unfoldable pub frame_placed : (at : ℕ) → List Piece → List ℕ → List ℕ
  frame_placed at [] o = o
  frame_placed at (p ∷ ps) o = frame_placed (place_after at (piece_text p) o) ps (placed_at at (piece_text p) o)

  unfoldable pub frame_after : (at : ℕ) → List Piece → List ℕ → ℕ
  frame_after at [] o = at
  frame_after at (p ∷ ps) o = frame_after (place_after at (piece_text p) o) ps (placed_at at (piece_text p) o)

-- the most bytes that a frame takes: the text of a time has at most 23
unfoldable pub frame_most : List Piece → ℕ
frame_most [] = 0
frame_most (bytes l ∷ ps) = length l + frame_most ps
frame_most (start ∷ ps) = 23 + frame_most ps
frame_most (stop ∷ ps) = 23 + frame_most ps

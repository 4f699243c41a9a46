-- What a text alone says, part by part: bytes that stay, captions that pass, captions with their times (cues). No timescale and no map.
use Rattle.std.specs.Prelude.{Bool, List, [], ◌∷◌, ℕ, suc, None}
use Rattle.spec_time.specs.caption_stamp.Read.{time_number}

-- the bytes around a caption's two times: pieces that stay, and the places of the start and of the end
pub data Piece : Type 0 where
  bytes : List ℕ → Piece
  start stop : Piece

-- why a caption passes: a column is unknown (warning 1), or it has fewer fields than columns (warning 2)
pub data Reason : Type 0 where
  unplaced short : Reason

abbrev pub reason_number : Reason → ℕ
reason_number unplaced = 1
reason_number short = 2

-- a caption whose times are read: its line from 1, the times in units with the mark before each fraction, whether a relative timing tag
-- stands in it, whether times stand in its lines (WebVTT), and the frame around the times
pub record Cue : Type 0 where
  pub line : ℕ
  pub start : ℕ
  pub start_mark : ℕ
  pub stop : ℕ
  pub stop_mark : ℕ
  pub tagged : Bool
  pub stamped : Bool
  pub frame : List Piece

abbrev pub cue_of : (line start start_mark stop stop_mark : ℕ) → (tagged stamped : Bool) → (frame : List Piece) → Cue
cue_of n S a E b t z ps = record { line = n; start = S; start_mark = a; stop = E; stop_mark = b; tagged = t; stamped = z; frame = ps }

-- the same cue with other times
abbrev pub with_times : Cue → (s e : ℕ) → Cue
with_times q s e = cue_of q.line s q.start_mark e q.stop_mark q.tagged q.stamped q.frame

pub data Part : Type 0 where
  stays : List ℕ → Part
  passes : Reason → (line : ℕ) → List ℕ → Part
  cue : Cue → Part

-- a text fault, and document 01's number: a bad time's is that of the time
pub data Fault : Type 0 where
  long_line not_utf8 long_block bad_time bad_header : Fault

abbrev pub fault_number : Fault → ℕ
fault_number long_line = 19
fault_number not_utf8 = 20
fault_number long_block = 21
fault_number bad_time = time_number None
fault_number bad_header = 24

-- captions decided: the cues, and the captions that pass
unfoldable pub captions_in : List Part → ℕ
captions_in [] = 0
captions_in (stays l ∷ ps) = captions_in ps
captions_in (passes r n l ∷ ps) = suc (captions_in ps)
captions_in (cue q ∷ ps) = suc (captions_in ps)

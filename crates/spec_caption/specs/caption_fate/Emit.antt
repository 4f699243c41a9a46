-- What each part of a text becomes through a map: bytes, warnings, and the fate of a caption.
use Rattle.std.specs.Prelude.{Bool, true, false, ◌&&◌, List, [], ◌∷◌, ◌++◌, ℕ}
use Rattle.spec_time.specs.caption_stamp.Write.{time_text}
use Rattle.spec_map.specs.declared.segment.Segment.{Segment}
use Rattle.spec_caption.specs.declared.caption_fate.Config.{Config}
use Rattle.spec_caption.specs.declared.caption_fate.Retimed.{Retimed}
use Rattle.spec_caption.specs.declared.caption_fate.Decision.{Decision}
use Rattle.spec_caption.specs.declared.caption_fate.Decision.TheVariants.{Strange, Dropped, Kept}
use Rattle.spec_caption.specs.caption_fate.Decide.{decide_of}
use Rattle.spec_caption.specs.caption_fate.Fates.{Fate, passed, dropped, fate_for}
use Rattle.spec_caption.specs.caption_fate.Says.{Piece, bytes, start, stop, reason_number, Cue, Part, stays, passes, cue}

-- a warning: its kind (1 to 5) and its line, from 1
pub record Warning : Type 0 where
  pub kind : ℕ
  pub line : ℕ

abbrev pub warning : (kind line : ℕ) → Warning
warning k n = record { kind = k; line = n }

abbrev pub warn_if : Bool → (kind line : ℕ) → List Warning
warn_if true k n = warning k n ∷ []
warn_if false k n = []

-- no caption, or a caption with its fate
pub data Caption : Type 0 where
  none : Caption
  decided : Fate → Caption

pub record Emit : Type 0 where
  pub out : List ℕ
  pub warnings : List Warning
  pub caption : Caption

abbrev pub emit : List ℕ → List Warning → Caption → Emit
emit o w c = record { out = o; warnings = w; caption = c }

-- the frame with two texts in the places of the times
unfoldable pub render : List Piece → (s e : List ℕ) → List ℕ
render [] s e = []
render (bytes l ∷ ps) s e = l ++ render ps s e
render (start ∷ ps) s e = s ++ render ps s e
render (stop ∷ ps) s e = e ++ render ps s e

-- a cue that is kept: both times written with the marks that they were read with;
-- warning 3 where the start was cut and a tag stands in it, then 4 where a part was lost, then 5 where times stand in its lines
abbrev pub kept_emit : (kind : ℕ) → Cue → Retimed → Emit
kept_emit kind q r =
    emit
    (render q.frame (time_text kind q.start_mark r.start) (time_text kind q.stop_mark r.stop))
    (warn_if (r.start_cut && q.tagged) 3 q.line ++ (warn_if r.lost 4 q.line ++ warn_if q.stamped 5 q.line))
    (decided (fate_for r))

-- a strange decision is none of document 01's (`decide_fine`): it comes with a map that 15 refuses
abbrev pub cue_emit : (kind : ℕ) → Cue → Decision → Emit
cue_emit kind q Strange = emit [] [] (decided dropped)
cue_emit kind q Dropped = emit [] [] (decided dropped)
cue_emit kind q (Kept r) = kept_emit kind q r

-- a part, given how times are decided
unfoldable pub emit_by : (kind : ℕ) → (ℕ → ℕ → Decision) → Part → Emit
emit_by kind d (stays l) = emit l [] none
emit_by kind d (passes x n l) = emit l (warning (reason_number x) n ∷ []) (decided passed)
emit_by kind d (cue q) = cue_emit kind q (d q.start q.stop)

-- a part through the map, and parts in a row
abbrev pub emit_of : Config → List Segment → Part → Emit
emit_of c m p = emit_by c.kind (decide_of c m) p

unfoldable pub emits_of : Config → List Segment → List Part → List Emit
emits_of c m [] = []
emits_of c m (p ∷ ps) = emit_of c m p ∷ emits_of c m ps

-- ---- joined
unfoldable pub output_of : List Emit → List ℕ
output_of [] = []
output_of (e ∷ es) = e.out ++ output_of es

unfoldable pub warnings_of : List Emit → List Warning
warnings_of [] = []
warnings_of (e ∷ es) = e.warnings ++ warnings_of es

-- two places to a warning
unfoldable pub places_of : List Warning → List ℕ
places_of [] = []
places_of (w ∷ ws) = w.kind ∷ w.line ∷ places_of ws

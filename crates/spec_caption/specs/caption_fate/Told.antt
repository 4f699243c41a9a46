-- What a line (in SRT and WebVTT a block) tells: its number, how it is counted, and what it writes. The answer's equations are these at every input.
use Rattle.std.specs.Prelude.{◌≡◌, List, [], ℕ, length}
use Rattle.spec_base.specs.base.Put.{put}
use Rattle.spec_map.specs.declared.segment.Segment.{Segment}
use Rattle.spec_caption.specs.declared.caption_fate.Config.{Config}
use Rattle.spec_caption.specs.declared.caption_fate.Counted.{Counted}
use Rattle.spec_caption.specs.declared.caption_fate.Counted.TheVariants.{Nothing, Passed, Dropped, Shifted, Clipped}
use Rattle.spec_caption.specs.declared.caption_fate.Told.{Told}
use Rattle.spec_caption.specs.declared.caption_fate.Decision.{Decision}
use Rattle.spec_caption.specs.declared.caption_fate.Decision.TheVariants.{Strange, Dropped as Gone, Kept}
use Rattle.spec_caption.specs.caption_fate.Cases.{decision_case}
use Rattle.spec_caption.specs.caption_fate.Decide.{decide_in}
use Rattle.spec_caption.specs.caption_fate.Fates.{passed, dropped, shifted, clipped}
use Rattle.spec_caption.specs.caption_fate.Says.{Cue, Part, stays, passes, cue}
use Rattle.spec_caption.specs.caption_fate.Emit.{Caption, none, decided, Emit, emit, cue_emit, emit_by, places_of}

-- how a caption is counted
abbrev pub counted_of : Caption → Counted
counted_of none = Nothing
counted_of (decided passed) = Passed
counted_of (decided dropped) = Dropped
counted_of (decided (shifted s e)) = Shifted
counted_of (decided (clipped s e)) = Clipped

-- an answer: the number, and what is emitted (nothing where the number is not 0)
pub record Answer : Type 0 where
  pub number : ℕ
  pub emitted : Emit

abbrev pub refusal : ℕ → Answer
refusal n = record { number = n; emitted = emit [] [] none }

abbrev pub answered : Emit → Answer
answered e = record { number = 0; emitted = e }

-- a part through the map as the code decides it: 15 where the segment that is met is past the limits
abbrev pub cue_in : (kind : ℕ) → Cue → Decision → Answer
cue_in kind q Strange = refusal (decision_case Strange).number
cue_in kind q Gone = answered (cue_emit kind q Gone)
cue_in kind q (Kept r) = answered (cue_emit kind q (Kept r))

unfoldable pub part_in : Config → List Segment → Part → Answer
part_in c m (stays l) = answered (emit_by c.kind (decide_in c m) (stays l))
part_in c m (passes x n l) = answered (emit_by c.kind (decide_in c m) (passes x n l))
part_in c m (cue q) = cue_in c.kind q (decide_in c m q.start q.stop)

-- a refusal, handed back
abbrev pub refused_with : ℕ → Told
refused_with n = record { number = n; counted = Nothing; written = 0; warned = 0 }

-- what the code hands back and leaves in the lent output and in the lent places
pub record Tells (a : Answer) (r : Told) (out out' places places' : List ℕ) : Type 0 where
  pub number : r.number ≡ a.number
  pub counted : r.counted ≡ counted_of a.emitted.caption
  pub written : r.written ≡ length a.emitted.out
  pub warned : r.warned ≡ length (places_of a.emitted.warnings)
  pub text : out' ≡ put a.emitted.out out
  pub warnings : places' ≡ put (places_of a.emitted.warnings) places

-- REQUEST 2.11. "Where each range holds a single tick the answer agrees with the fate in a feed of a caption so read": a cue of the text that a list of
-- calls took, the fate that it was given, and the answer for the ticks of its two times.
use Rattle.std.specs.Prelude.{◌≡◌, ℕ}
use mathlib.Core.List.{List, Memᴰ}
use Rattle.spec_map.specs.segment.Segment.{segments_of}
use Rattle.spec_caption.specs.declared.caption_fate.Config.{Config}
use Rattle.spec_caption.specs.caption_fate.Fates.{Fate}
use Rattle.spec_caption.specs.caption_fate.Says.{Cue, Part, cue}
use Rattle.spec_caption.specs.caption_fate.Emit.{decided, emit_of}
use Rattle.spec_ask.specs.ask_rough.Rough.{rough_of, JudgedAs}
use Rattle.spec_machine.specs.session_counts.Calls.{Proper}
use Rattle.spec_session.specs.declared.session.Opened.{Opened}
use Rattle.spec_session.specs.session.SessionCalls.{OpenAnswered}
use Rattle.promise.specs.Demand.{ticks, said_in, Demand}
use Rattle.promise.specs.Runs.{Made, calls_of, Ran, outcome}
use Rattle.promise.specs.Promise.{config_of}

-- surely kept where the cue was shifted or clipped, surely dropped where it was dropped
abbrev pub SameJudgement : Config → (map : List ℕ) → List Part → Type 0
SameJudgement c m ps =
    (q : Cue) → Memᴰ (cue q) ps → (f : Fate) → (emit_of c (segments_of m) (cue q)).caption ≡ decided f
    → JudgedAs f
    (rough_of m
    (ticks c (segments_of m) q.start) (ticks c (segments_of m) q.start)
    (ticks c (segments_of m) q.stop) (ticks c (segments_of m) q.stop))

-- for every list of feeds and finishes through a map that open accepts
abbrev pub Judgement : Type 0
Judgement =
    (kind T : ℕ) (m : List ℕ) (o : Opened) → OpenAnswered kind T m o → o.number ≡ 0
    → (cs : List Made) → Proper m (calls_of cs) → Ran o.session cs
    → Demand (config_of kind T) m (calls_of cs) (outcome o.session cs)
    × SameJudgement (config_of kind T) m (said_in (config_of kind T) (calls_of cs)).parts

-- REQUEST 2.8. "The fate is the one that a feed would give to the same caption, where its hours are at most 9,999": a cue of the text that a list of calls
-- took, the fate that it was given, and the fate told for its two times. Each cue of a text has such hours (promise/specs/Hours: `TimesInHours`), so no premise says it.
use Rattle.std.specs.Prelude.{◌≡◌, ℕ, ◌≤◌, length}
use mathlib.Core.List.{List, Memᴰ}
use Rattle.spec_map.specs.segment.Segment.{segments_of}
use Rattle.spec_caption.specs.declared.caption_fate.Config.{Config}
use Rattle.spec_caption.specs.caption_fate.Fates.{Fate}
use Rattle.spec_caption.specs.caption_fate.Says.{Cue, Part, cue}
use Rattle.spec_caption.specs.caption_fate.Emit.{decided, emit_of}
use Rattle.spec_caption.specs.caption_fate.Told.{counted_of}
use Rattle.spec_ask.specs.ask_reason.Reason.{why_of}
use Rattle.spec_machine.specs.session_counts.Calls.{Proper}
use Rattle.spec_session.specs.declared.session.Opened.{Opened}
use Rattle.spec_session.specs.session.SessionCalls.{OpenAnswered}
use Rattle.promise.specs.Demand.{said_in, Demand}
use Rattle.promise.specs.Runs.{Made, calls_of, Ran, outcome}
use Rattle.promise.specs.Promise.{config_of}

-- asked for its times, with as many places as there are segments or more: 0, and the fate that the cue was counted by
abbrev pub SameFate : Config → (map : List ℕ) → List Part → Type 0
SameFate c m ps =
    (q : Cue) → Memᴰ (cue q) ps → (f : Fate) → (emit_of c (segments_of m) (cue q)).caption ≡ decided f
    → (places : ℕ) → length (segments_of m) ≤ places
    → ((why_of m c.timescale c.kind q.start q.stop places).number ≡ 0)
    × ((why_of m c.timescale c.kind q.start q.stop places).fate ≡ counted_of (decided f))

-- for every list of feeds and finishes through a map that open accepts
abbrev pub ReasonFed : Type 0
ReasonFed =
    (kind T : ℕ) (m : List ℕ) (o : Opened) → OpenAnswered kind T m o → o.number ≡ 0
    → (cs : List Made) → Proper m (calls_of cs) → Ran o.session cs
    → Demand (config_of kind T) m (calls_of cs) (outcome o.session cs)
    × SameFate (config_of kind T) m (said_in (config_of kind T) (calls_of cs)).parts

-- REQUEST 2.12. "For maps whose positive stretches ascend without overlap in source and output": `ascends`. "of two kept captions of one text": two cues of
-- the text that a list of calls took, whose fate is shifted or clipped (`KeptIn`). "if the first's start read is not later, its written start is not later. If
-- also its end read is not later, its written end is not later": `InSequence`. "It holds in every kind, clipped or not": any kind that open accepts.
use Rattle.std.specs.Prelude.{◌≡◌, true, ℕ, ◌≤◌}
use mathlib.Core.List.{List, Memᴰ}
use Rattle.spec_time.specs.caption_stamp.Write.{time_text}
use Rattle.spec_map.specs.declared.segment.Segment.{Segment}
use Rattle.spec_map.specs.segment.Segment.{segments_of, flat_of}
use Rattle.spec_caption.specs.declared.caption_fate.Config.{Config}
use Rattle.spec_caption.specs.caption_fate.Fates.{Fate}
use Rattle.spec_caption.specs.caption_fate.Says.{Cue, Part, cue}
use Rattle.spec_caption.specs.caption_fate.Emit.{decided, render, emit_of}
use Rattle.spec_ask.specs.ask_order.Ascending.{ascends}
use Rattle.spec_ask.specs.ask_order.Order.{WrittenAs}
use Rattle.spec_machine.specs.session_counts.Calls.{Proper}
use Rattle.spec_session.specs.declared.session.Opened.{Opened}
use Rattle.spec_session.specs.session.SessionCalls.{OpenAnswered}
use Rattle.promise.specs.Demand.{said_in, Demand}
use Rattle.promise.specs.Runs.{Made, calls_of, Ran, outcome}
use Rattle.promise.specs.Promise.{config_of}

-- a cue of the text, its fate, and the units written for it
pub record KeptIn (c : Config) (m : List Segment) (ps : List Part) : Type 0 where
  pub read : Cue
  pub stands : Memᴰ (cue read) ps
  pub fate : Fate
  pub given : (emit_of c m (cue read)).caption ≡ decided fate
  pub start : ℕ
  pub stop : ℕ
  pub written : WrittenAs fate start stop

abbrev pub InSequence : Config → List Segment → List Part → Type 0
InSequence c m ps =
    (x y : KeptIn c m ps) → x.read.start ≤ y.read.start → (x.start ≤ y.start) × (x.read.stop ≤ y.read.stop → x.stop ≤ y.stop)

-- these units are what is written: they stand as text in the places of the times
abbrev pub WrittenIn : Config → List Segment → List Part → Type 0
WrittenIn c m ps =
    (x : KeptIn c m ps)
    → (emit_of c m (cue x.read)).out
    ≡ render x.read.frame (time_text c.kind x.read.start_mark x.start) (time_text c.kind x.read.stop_mark x.stop)

-- for every list of feeds and finishes through a map that open accepts and that ascends
abbrev pub Sequence : Type 0
Sequence =
    (kind T : ℕ) (m : List ℕ) (o : Opened) → OpenAnswered kind T m o → o.number ≡ 0 → ascends (segments_of m) ≡ true
    → (cs : List Made) → Proper m (calls_of cs) → Ran o.session cs
    → Demand (config_of kind T) m (calls_of cs) (outcome o.session cs)
    × InSequence (config_of kind T) (segments_of m) (said_in (config_of kind T) (calls_of cs)).parts
    × WrittenIn (config_of kind T) (segments_of m) (said_in (config_of kind T) (calls_of cs)).parts

-- and through a map of records that ascends: its flat numbers are lent
abbrev pub SequenceRecords : Type 0
SequenceRecords =
    (kind T : ℕ) (xs : List Segment) (o : Opened) → OpenAnswered kind T (flat_of xs) o → o.number ≡ 0 → ascends xs ≡ true
    → (cs : List Made) → Proper (flat_of xs) (calls_of cs) → Ran o.session cs
    → Demand (config_of kind T) (flat_of xs) (calls_of cs) (outcome o.session cs)
    × InSequence (config_of kind T) xs (said_in (config_of kind T) (calls_of cs)).parts
    × WrittenIn (config_of kind T) xs (said_in (config_of kind T) (calls_of cs)).parts

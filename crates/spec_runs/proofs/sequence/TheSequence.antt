-- REQUEST 2.12, proved: `sequence`, and `sequence_records` for a map of records.
use mathlib.Core.Path.{◌≡◌, refl, sym, ap, ap₂, subst, ◌∙◌}
use mathlib.Core.List.{List}
use Prim.Native.Nat.{ℕ}
use native.Mathlib.Omega.{arith}
use Rattle.spec_time.specs.caption_stamp.Write.{time_text}
use Rattle.spec_time.proofs.caption_time.Limits.{timescale_low, units_low}
use Rattle.spec_map.specs.declared.segment.Segment.{Segment}
use Rattle.spec_map.specs.segment.Segment.{segments_of, flat_of}
use Rattle.spec_map.proofs.segment.SegmentLaws.{flat_back}
use Rattle.spec_caption.specs.declared.caption_fate.Config.{Config}
use Rattle.spec_caption.specs.declared.caption_fate.Decision.{Decision}
use Rattle.spec_caption.specs.declared.caption_fate.Decision.TheVariants.{Strange, Dropped, Kept}
use Rattle.spec_caption.specs.caption_fate.Decide.{decide_of}
use Rattle.spec_caption.specs.caption_fate.Fates.{Fate, fate_by, fate_of}
use Rattle.spec_caption.specs.caption_fate.Says.{Cue, Part, cue}
use Rattle.spec_caption.specs.caption_fate.Emit.{Caption, none, decided, render, cue_emit, emit_by, emit_of}
use Rattle.spec_ask.specs.ask_order.Ascending.{ascends}
use Rattle.spec_ask.specs.ask_order.Order.{WrittenAs, InOrder}
use Rattle.spec_ask.proofs.ask_order.Places.{kept_as, keeps_order}
use Rattle.spec_machine.specs.session_counts.Session.{open_session}
use Rattle.spec_machine.proofs.session_counts.Numbers.{opened}
use Rattle.spec_machine.specs.kinds.Kit.{kit}
use Rattle.spec_session.specs.declared.session.Opened.{Opened}
use Rattle.spec_session.specs.session.SessionCalls.{OpenAnswered, open_of}
use Rattle.promise.specs.Demand.{said_in}
use Rattle.promise.specs.Runs.{calls_of}
use Rattle.promise.specs.Promise.{config_of}
use Rattle.promise.proofs.TheDemand.{demand_opened}
use Rattle.spec_runs.specs.sequence.Sequence.{KeptIn, InSequence, WrittenIn, Sequence, SequenceRecords}

-- ---- what a cue becomes is its fate
caption_fate : (kind : ℕ) (q : Cue) (d : Decision) → (cue_emit kind q d).caption ≡ decided (fate_by d)
caption_fate kind q Strange = refl
caption_fate kind q Dropped = refl
caption_fate kind q (Kept r) = refl

pub cue_fate : (c : Config) (m : List Segment) (q : Cue) → (emit_of c m (cue q)).caption ≡ decided (fate_of c m q.start q.stop)
unfolding emit_by fate_of
cue_fate c m q = caption_fate c.kind q (decide_of c m q.start q.stop)

fate_in : Fate → Caption → Fate
fate_in f none = f
fate_in f (decided g) = g

pub given_fate : (f g : Fate) → decided f ≡ decided g → f ≡ g
unfolding fate_in
given_fate f g e = ap (fate_in f) e

-- ---- two kept captions
fate_written : {c : Config} {m : List Segment} {ps : List Part} (x : KeptIn c m ps) → WrittenAs (fate_of c m x.read.start x.read.stop) x.start x.stop
fate_written {c} {m} x =
    subst (λ (f : Fate). WrittenAs f x.start x.stop) (given_fate x.fate (fate_of c m x.read.start x.read.stop) (sym x.given ∙ cue_fate c m x.read)) x.written

in_sequence : (c : Config) (m : List Segment) (ps : List Part) → InOrder c m → InSequence c m ps
in_sequence c m ps order x y l =
    order x.read.start x.read.stop y.read.start y.read.stop x.start x.stop y.start y.stop (fate_written x) (fate_written y) l

-- ---- what is written for one
cue_bytes : (kind : ℕ) (q : Cue) (d : Decision) (s e : ℕ) → WrittenAs (fate_by d) s e
    → (cue_emit kind q d).out ≡ render q.frame (time_text kind q.start_mark s) (time_text kind q.stop_mark e)
cue_bytes kind q Strange s e w = absurd w
cue_bytes kind q Dropped s e w = absurd w
cue_bytes kind q (Kept r) s e w =
    let k = kept_as r s e w in ap₂ (λ (t u : ℕ). render q.frame (time_text kind q.start_mark t) (time_text kind q.stop_mark u)) k.0 k.1

written_in : (c : Config) (m : List Segment) (ps : List Part) → WrittenIn c m ps
unfolding emit_by fate_of
written_in c m ps x = cue_bytes c.kind x.read (decide_of c m x.read.start x.read.stop) x.start x.stop (fate_written x)

pub opens : (kind T : ℕ) (m : List ℕ) (o : Opened) → OpenAnswered kind T m o → o.number ≡ 0 → (open_session kit (config_of kind T) m).number ≡ 0
unfolding open_of
opens kind T m o a z = sym a.number ∙ z

pub sequence : Sequence
sequence kind T m o a z w cs p r =
    let g = opened kit (config_of kind T) m (opens kind T m o a z) in (
      demand_opened kind T m o a z cs p r,
      in_sequence (config_of kind T) (segments_of m) _
          (keeps_order (config_of kind T) (segments_of m) (timescale_low T g.timescale_good) (omega (arith, units_low kind g.kind_known)) w),
      written_in (config_of kind T) (segments_of m) _,
    )

-- and of a map of records
pub sequence_records : SequenceRecords
sequence_records kind T xs o a z w cs p r =
    let d = sequence kind T (flat_of xs) o a z (ap ascends (flat_back xs) ∙ w) cs p r in (
      d.0,
      subst (λ (m : List Segment). InSequence (config_of kind T) m (said_in (config_of kind T) (calls_of cs)).parts) (flat_back xs) d.1,
      written_in (config_of kind T) xs _,
    )

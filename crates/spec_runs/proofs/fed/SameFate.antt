-- REQUEST 2.8, tied to a feed: `same_fate`.
use mathlib.Core.Path.{ap, ◌∙◌}
use mathlib.Core.List.{List}
use Prim.Native.Nat.{ℕ}
use Rattle.spec_map.specs.segment.Segment.{segments_of}
use Rattle.spec_caption.specs.declared.caption_fate.Config.{Config}
use Rattle.spec_caption.specs.caption_fate.Fates.{Fate}
use Rattle.spec_caption.specs.caption_fate.Says.{Part}
use Rattle.spec_caption.specs.caption_fate.Emit.{decided}
use Rattle.spec_caption.specs.caption_fate.Told.{counted_of}
use Rattle.spec_ask.proofs.ask_reason.Truth.{fate_is, taken_number, told_number}
use Rattle.spec_machine.proofs.session_counts.Numbers.{Opened as Admitted, opened}
use Rattle.spec_machine.specs.kinds.Kit.{kit}
use Rattle.promise.specs.Hours.{AllInHours}
use Rattle.promise.specs.Demand.{heard}
use Rattle.promise.specs.Runs.{calls_of}
use Rattle.promise.specs.Promise.{config_of}
use Rattle.promise.proofs.TheDemand.{demand_opened}
use Rattle.promise.proofs.HourLaws.{in_hours, hours_of}
use Rattle.spec_runs.proofs.sequence.TheSequence.{opens}
use Rattle.spec_runs.specs.fed.Reason.{SameFate, ReasonFed}
use Rattle.spec_runs.proofs.fed.Cues.{fate_given}

same_fates : (c : Config) (m : List ℕ) (ps : List Part) → Admitted c m → AllInHours c.kind ps → SameFate c m ps
same_fates c m ps g a q i f e places room =
    let h = hours_of c.kind q ps a i in
    let n = taken_number m c.timescale c.kind q.start q.stop places g.timescale_good g.map_good g.kind_known h.0 h.1 room in (
      told_number m c.timescale c.kind q.start q.stop places n,
      fate_is m c.timescale c.kind q.start q.stop places n ∙ ap (λ (x : Fate). counted_of (decided x)) (fate_given c (segments_of m) q f e),
    )

pub same_fate : ReasonFed
same_fate kind T m o a z cs p r =
    let g = opened kit (config_of kind T) m (opens kind T m o a z) in (
      demand_opened kind T m o a z cs p r,
      same_fates (config_of kind T) m _ g (in_hours kind (heard (config_of kind T) (calls_of cs)).reader.finished (heard (config_of kind T) (calls_of cs)).reader.text g.kind_known),
    )

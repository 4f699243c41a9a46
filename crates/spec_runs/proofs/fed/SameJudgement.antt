-- REQUEST 2.11, tied to a feed: `same_judgement`.
use mathlib.Core.Path.{◌≡◌, subst}
use mathlib.Core.Bool.{false}
use mathlib.Core.List.{List}
use Prim.Native.Nat.{ℕ}
use Rattle.spec_map.specs.segment.Segment.{segments_of, map_bad}
use Rattle.spec_caption.specs.declared.caption_fate.Config.{Config}
use Rattle.spec_caption.specs.caption_fate.Fates.{Fate}
use Rattle.spec_caption.specs.caption_fate.Says.{Part}
use Rattle.spec_ask.specs.ask_rough.Rough.{rough_of, JudgedAs}
use Rattle.spec_ask.proofs.ask_rough.Meaning.{single_tick}
use Rattle.spec_machine.proofs.session_counts.Numbers.{opened}
use Rattle.spec_machine.specs.kinds.Kit.{kit}
use Rattle.promise.specs.Demand.{ticks}
use Rattle.promise.specs.Promise.{config_of}
use Rattle.promise.proofs.TheDemand.{demand_opened}
use Rattle.spec_runs.proofs.sequence.TheSequence.{opens}
use Rattle.spec_runs.specs.fed.Judgement.{SameJudgement, Judgement}
use Rattle.spec_runs.proofs.fed.Cues.{fate_given}

same_judgements : (c : Config) (m : List ℕ) (ps : List Part) → map_bad m ≡ false → SameJudgement c m ps
same_judgements c m ps g q i f e =
    let a = ticks c (segments_of m) q.start in
    let b = ticks c (segments_of m) q.stop in
    subst (λ (x : Fate). JudgedAs x (rough_of m a a b b)) (fate_given c (segments_of m) q f e) (single_tick c m q.start q.stop g)

pub same_judgement : Judgement
same_judgement kind T m o a z cs p r =
    let g = opened kit (config_of kind T) m (opens kind T m o a z) in
    (demand_opened kind T m o a z cs p r, same_judgements (config_of kind T) m _ g.map_good)

-- What a cue becomes is its fate by the caption rules.
use mathlib.Core.Path.{◌≡◌, sym, ◌∙◌}
use mathlib.Core.List.{List}
use Rattle.spec_map.specs.declared.segment.Segment.{Segment}
use Rattle.spec_caption.specs.declared.caption_fate.Config.{Config}
use Rattle.spec_caption.specs.caption_fate.Fates.{Fate, fate_of}
use Rattle.spec_caption.specs.caption_fate.Says.{Cue, cue}
use Rattle.spec_caption.specs.caption_fate.Emit.{decided, emit_of}
use Rattle.spec_runs.proofs.sequence.TheSequence.{cue_fate, given_fate}

-- the fate that a cue was given
pub fate_given : (c : Config) (m : List Segment) (q : Cue) (f : Fate) → (emit_of c m (cue q)).caption ≡ decided f → fate_of c m q.start q.stop ≡ f
fate_given c m q f e = given_fate (fate_of c m q.start q.stop) f (sym (cue_fate c m q) ∙ e)

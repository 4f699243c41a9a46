-- The limits, by computation.
use mathlib.Core.Path.{refl}
use Rattle.spec_base.specs.base.Refusal.{◌or_else◌, fault_unless}
use Rattle.spec_time.specs.caption_time.Kind.{kind_bad}
use Rattle.spec_time.specs.caption_time.Convert.{timescale_bad}
use Rattle.spec_map.specs.segment.Segment.{segments_of, any_bad, map_bad}
use Rattle.spec_runs.specs.one_call.Text.{lengths_fault, refused_with}
use Rattle.spec_runs.specs.atonceruns.Limits.{Limits}

pub limits : Limits
unfolding lengths_fault refused_with fault_unless ◌or_else◌ kind_bad timescale_bad map_bad segments_of any_bad
limits =
    record {
      output_least = refl;
      output_short = refl;
      output_empty = refl;
      output_empty_short = refl;
      places_short = refl;
      places_of_two = refl;
      places_of_three = refl;
      places_empty_short = refl;
      told_short = refl;
      text_most = refl;
      text_next = refl;
      timescale_none = refl;
      timescale_least = refl;
      timescale_most = refl;
      timescale_next = refl;
      kind_most = refl;
      kind_next = refl;
      map_before_kind = refl;
    }

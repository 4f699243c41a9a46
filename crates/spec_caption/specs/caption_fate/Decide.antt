-- What becomes of a caption whose times are read (the Rust's map_event): cut to the segment that it meets first, and moved.
-- S and E are the times read, in units of 1/U second; T is ticks a second.
use Rattle.std.specs.Prelude.{Bool, ◌&&◌, cond, List, ℕ, ◌+◌, ◌-◌, min, max, ltb}
use Rattle.spec_time.specs.caption_time.Kind.{units_of}
use Rattle.spec_time.specs.caption_time.Convert.{ticks_of, start_units, end_units, ticks_within, start_within, end_within}
use Rattle.spec_map.specs.declared.segment.Segment.{Segment}
use Rattle.spec_map.specs.segment.Segment.{source_of, output_start_of, end_bad}
use Rattle.spec_caption.specs.declared.caption_fate.Config.{Config}
use Rattle.spec_caption.specs.declared.caption_fate.Met.{Met}
use Rattle.spec_caption.specs.declared.caption_fate.Retimed.{Retimed}
use Rattle.spec_caption.specs.declared.caption_fate.Decision.{Decision}
use Rattle.spec_caption.specs.declared.caption_fate.Decision.TheVariants.{Strange, Dropped, Kept}
use Rattle.spec_caption.specs.caption_fate.Hit.{Found, miss, hit, find_hit, met_of}
use Rattle.spec_caption.specs.caption_fate.Lost.{lost_rule}

-- a tick at or after the source start q, moved by d = o − q
abbrev pub moved : (q o tick : ℕ) → ℕ
moved q o k = o + (k - q)

-- ticks a to b, cut to the segment x and moved, given how ticks are written; lost: what the part-lost rule says of the segments behind x
module _ (start stop : ℕ → ℕ) where
  abbrev pub retimed_by : (a b : ℕ) → (lost : Bool) → Met → Retimed
  retimed_by a b lost x =
      record {
        start = start (moved x.source x.output (max a x.source));
        stop = stop (moved x.source x.output (min b (x.source + x.duration)));
        start_cut = ltb a x.source;
        end_cut = ltb (x.source + x.duration) b;
        lost = ltb (x.source + x.duration) b && lost;
      }

-- ---- by document 01
module _ (T U : ℕ) where
  abbrev pub retimed_at : (a b : ℕ) → (lost : Bool) → Met → Retimed
  retimed_at a b lost x = retimed_by (start_units T U) (end_units T U) a b lost x

  abbrev pub decide_hit : (a b : ℕ) → Found → Decision
  decide_hit a b miss = Dropped
  decide_hit a b (hit i x xs) = Kept (retimed_at a b (lost_rule xs a b) (met_of i x))

  unfoldable pub decide_ticks : List Segment → (a b : ℕ) → Decision
  decide_ticks m a b = decide_hit a b (find_hit m a b)

unfoldable pub decide_of : Config → List Segment → (S E : ℕ) → Decision
decide_of c m S E =
    decide_ticks c.timescale (units_of c.kind) m
    (ticks_of c.timescale (units_of c.kind) S)
    (ticks_of c.timescale (units_of c.kind) E)

-- ---- by the code, at every input: the conversions give 0 past their limits, and a segment past the tick limit is strange.
-- Within the limits both are the same (`decide_fine`).
abbrev pub limited_hit : Config → (a b : ℕ) → Found → Decision
limited_hit c a b miss = Dropped
limited_hit c a b (hit i x xs) =
    cond (end_bad (source_of x) x.duration) Strange
    (cond (end_bad (output_start_of x) x.duration) Strange
    (Kept (retimed_by (start_within c.kind c.timescale) (end_within c.kind c.timescale) a b (lost_rule xs a b) (met_of i x))))

unfoldable pub decide_in : Config → List Segment → (S E : ℕ) → Decision
decide_in c m S E =
    limited_hit c (ticks_within c.kind c.timescale S) (ticks_within c.kind c.timescale E)
    (find_hit m (ticks_within c.kind c.timescale S) (ticks_within c.kind c.timescale E))

-- The fate of a caption whose times are read, and what is right for it in plain words: the first segment that it meets, the cut, the shift.
use Rattle.std.specs.Prelude.{◌≡◌, Bool, true, false, ◌||◌, cond, ℕ, ◌+◌, ◌-◌, ◌≤◌, ◌<◌, min, max, ltb}
use mathlib.Core.List.{List, ◌∷◌, ◌++◌, Memᴰ}
use Rattle.spec_time.specs.caption_time.Convert.{ticks_of, start_units, end_units}
use Rattle.spec_time.specs.caption_time.Near.{NearStart, NearEnd}
use Rattle.spec_map.specs.declared.segment.Segment.{Segment}
use Rattle.spec_map.specs.segment.Segment.{source_of, output_start_of, source_end}
use Rattle.spec_caption.specs.declared.caption_fate.Config.{Config}
use Rattle.spec_caption.specs.declared.caption_fate.Retimed.{Retimed}
use Rattle.spec_caption.specs.declared.caption_fate.Decision.{Decision}
use Rattle.spec_caption.specs.declared.caption_fate.Decision.TheVariants.{Strange, Dropped, Kept}
use Rattle.spec_caption.specs.caption_fate.Decide.{decide_of}

-- shifted and clipped carry the units written; passed: its times were not read, and its bytes stay
pub data Fate : Type 0 where
  passed dropped : Fate
  shifted clipped : (s e : ℕ) → Fate

-- both times uncut: shifted; else clipped
abbrev pub fate_for : Retimed → Fate
fate_for r = cond (r.start_cut || r.end_cut) (clipped r.start r.stop) (shifted r.start r.stop)

abbrev pub fate_by : Decision → Fate
fate_by Strange = dropped
fate_by Dropped = dropped
fate_by (Kept r) = fate_for r

-- a caption read as S to E
unfoldable pub fate_of : Config → List Segment → (S E : ℕ) → Fate
fate_of c m S E = fate_by (decide_of c m S E)

-- ---- in plain words
-- a segment of positive length that ends after tick a and starts before tick b
pub record Meets (x : Segment) (a b : ℕ) : Type 0 where
  pub long : 0 < x.duration
  pub later : a < source_end x
  pub sooner : source_of x < b

abbrev pub NoneMeets : List Segment → (a b : ℕ) → Type 0
NoneMeets m a b = (x : Segment) → Memᴰ x m → Meets x a b → ⊥

-- the first such segment of the map
pub record FirstMet (m : List Segment) (a b : ℕ) (x : Segment) : Type 0 where
  pub earlier : List Segment
  pub others : List Segment
  pub stands : m ≡ earlier ++ x ∷ others
  pub met : Meets x a b
  pub none_earlier : NoneMeets earlier a b

-- a tick of the segment, at or behind its source start, moved by d = output start − source start
abbrev pub moved_by : Segment → (tick : ℕ) → ℕ
moved_by x t = output_start_of x + (t - source_of x)

-- a caption that is kept, with a tick cut or not: both ticks, cut to the first segment that it meets, move by its shift and are written; the drift
-- bounds hold for each time that was not cut
pub record IsKept (T U : ℕ) (m : List Segment) (S E : ℕ) (cut : Bool) (s e : ℕ) : Type 0 where
  pub segment : Segment
  pub first : FirstMet m (ticks_of T U S) (ticks_of T U E) segment
  pub was_cut : (ltb (ticks_of T U S) (source_of segment) || ltb (source_end segment) (ticks_of T U E)) ≡ cut
  pub start_written : s ≡ start_units T U (moved_by segment (max (ticks_of T U S) (source_of segment)))
  pub end_written : e ≡ end_units T U (moved_by segment (min (ticks_of T U E) (source_end segment)))
  pub start_near : source_of segment ≤ ticks_of T U S → NearStart T U (source_of segment) (output_start_of segment) S s
  pub end_near : ticks_of T U E ≤ source_end segment → NearEnd T U (source_of segment) (output_start_of segment) E e

-- what is right for a caption read as S to E: dropped exactly where no segment is met (the other two fates have one)
abbrev pub Right : (T U : ℕ) → List Segment → (S E : ℕ) → Fate → Type 0
Right T U m S E passed = ⊥
Right T U m S E dropped = NoneMeets m (ticks_of T U S) (ticks_of T U E)
Right T U m S E (shifted s e) = IsKept T U m S E false s e
Right T U m S E (clipped s e) = IsKept T U m S E true s e

-- What the parts of a text warn of through a map, by a rule for lost parts. No other definition takes a rule: fates, bytes and counts do not
-- depend on it. The parts' warnings are those by request 2.7's rule (`warns_later`); by document 01's they are what a house without it gave.
use Rattle.std.specs.Prelude.{◌≡◌, ◌&&◌, List, [], ◌∷◌, ◌++◌, ℕ, ◌≤◌, ◌<◌, ltb}
use Rattle.spec_time.specs.caption_time.Kind.{units_of}
use Rattle.spec_time.specs.caption_time.Convert.{ticks_of}
use Rattle.spec_map.specs.declared.segment.Segment.{Segment}
use Rattle.spec_map.specs.segment.Segment.{source_of, source_end}
use Rattle.spec_caption.specs.declared.caption_fate.Config.{Config}
use Rattle.spec_caption.specs.caption_fate.Hit.{Found, miss, hit, find_hit}
use Rattle.spec_caption.specs.caption_fate.Lost.{Rule}
use Rattle.spec_caption.specs.caption_fate.Says.{reason_number, Cue, Part, stays, passes, cue}
use Rattle.spec_caption.specs.caption_fate.Emit.{Warning, warning, warn_if}

-- a cue of ticks a to b, by the segment x that it meets and those behind: 3 where its start was cut and it is tagged, then 4 where its end was
-- cut and the rule says that a part was lost, then 5 where times stand in its lines
abbrev pub found_warns : Rule → Cue → (a b : ℕ) → Found → List Warning
found_warns lost q a b miss = []
found_warns lost q a b (hit i x xs) =
    warn_if (ltb a (source_of x) && q.tagged) 3 q.line ++ (warn_if (ltb (source_end x) b && lost xs a b) 4 q.line ++ warn_if q.stamped 5 q.line)

abbrev pub cue_warns : Rule → List Segment → Cue → (a b : ℕ) → List Warning
cue_warns lost m q a b = found_warns lost q a b (find_hit m a b)

module _ (lost : Rule) (c : Config) (m : List Segment) where
  unfoldable pub part_warns : Part → List Warning
  part_warns (stays l) = []
  part_warns (passes r n l) = warning (reason_number r) n ∷ []
  part_warns (cue q) = cue_warns lost m q (ticks_of c.timescale (units_of c.kind) q.start) (ticks_of c.timescale (units_of c.kind) q.stop)

  unfoldable pub warns_by : List Part → List Warning
  warns_by [] = []
  warns_by (p ∷ ps) = part_warns p ++ warns_by ps

-- ---- maps over which request 2.7's rule only adds warnings (`part_adds`): of two segments of positive length, the earlier in the list ends at or
-- before the start of the later, in the source
abbrev pub Apart : List Segment → Type 0
Apart m =
    (earlier between others : List Segment) (x y : Segment) → m ≡ earlier ++ x ∷ between ++ y ∷ others → 0 < x.duration → 0 < y.duration
    → source_end x ≤ source_of y

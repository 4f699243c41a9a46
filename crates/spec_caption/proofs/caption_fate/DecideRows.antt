-- Decisions in milliseconds, through small maps: the cut, the shift, and the lost part by the times as they were read. By computation.
use mathlib.Core.Path.{◌≡◌, refl}
use mathlib.Core.Bool.{Bool, true, false}
use mathlib.Core.List.{List, [], ◌∷◌}
use Prim.Native.Nat.{ℕ}
use Rattle.spec_map.specs.declared.segment.Segment.{Segment}
use Rattle.spec_map.specs.segment.Segment.{segment}
use Rattle.spec_time.specs.caption_time.Kind.{units_of}
use Rattle.spec_time.specs.caption_time.Convert.{scaled_up, ticks_of, start_units, end_units}
use Rattle.spec_caption.specs.declared.caption_fate.Decision.{Decision}
use Rattle.spec_caption.specs.declared.caption_fate.Decision.TheVariants.{Dropped, Kept}
use Rattle.spec_caption.specs.caption_fate.Hit.{meets_parts, find_from}
use Rattle.spec_caption.specs.caption_fate.Lost.{lost_later}
use Rattle.spec_caption.specs.caption_fate.Decide.{decide_ticks, decide_of}

-- a segment by source start, output start and duration
abbrev at : (source output duration : ℕ) → Segment
at q o d = segment 0 0 q 0 o d

abbrev decided : List Segment → (S E : ℕ) → Decision
decided m S E = decide_of (record { kind = 1; timescale = 1000 }) m S E

abbrev kept : (s e : ℕ) → (startCut endCut lost : Bool) → Decision
kept s e a b l = Kept (record { start = s; stop = e; start_cut = a; end_cut = b; lost = l })

-- cut at both ends by the first segment, a caption has a part in the second, which lies before the first and behind the start as read
pub lost_before : decided (at 1000 0 500 ∷ at 200 500 100 ∷ []) 0 2000 ≡ kept 0 500 true true true
unfolding decide_of decide_ticks units_of ticks_of start_units end_units scaled_up meets_parts find_from lost_later
lost_before = refl

-- no part is lost where the end was not cut, though a later segment has the whole caption too
pub uncut : decided (at 0 0 1000 ∷ at 500 1000 1000 ∷ []) 600 900 ≡ kept 600 900 false false false
unfolding decide_of decide_ticks units_of ticks_of start_units end_units scaled_up meets_parts find_from lost_later
uncut = refl

-- moved by 200 less; up to both edges uncut; on an edge dropped
pub moved_rows : (decided (at 300 100 50 ∷ []) 310 340 ≡ kept 110 140 false false false)
    × (decided (at 300 100 50 ∷ []) 300 350 ≡ kept 100 150 false false false)
    × (decided (at 300 100 50 ∷ []) 299 351 ≡ kept 100 150 true true false)
    × (decided (at 300 100 50 ∷ []) 350 400 ≡ Dropped)
    × (decided (at 300 100 50 ∷ []) 200 300 ≡ Dropped)
unfolding decide_of decide_ticks units_of ticks_of start_units end_units scaled_up meets_parts find_from lost_later
moved_rows = (refl, refl, refl, refl, refl)

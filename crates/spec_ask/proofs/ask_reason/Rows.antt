-- Captions of document 01's table by computation (ASS, hundredths), through its worked map: source ticks 0 to 3003 and 6006 to 10010, 30000 a second.
use mathlib.Core.Path.{◌≡◌, refl}
use mathlib.Core.List.{List, [], ◌∷◌}
use Prim.Native.Nat.{ℕ}
use Rattle.spec_base.specs.base.Refusal.{◌or_else◌, fault_unless}
use Rattle.spec_base.specs.base.Put.{put}
use Rattle.spec_time.specs.caption_time.Kind.{kind_bad, units_of}
use Rattle.spec_time.specs.caption_time.Convert.{timescale_bad, ticks_of}
use Rattle.spec_map.specs.segment.Segment.{end_bad, segment_bad, any_bad, map_bad, segments_of}
use Rattle.spec_caption.specs.caption_fate.Hit.{meets_parts, find_from}
use Rattle.spec_ask.specs.declared.ask_reason.Why.{Why}
use Rattle.spec_ask.specs.ask_reason.Reason.{cause_parts, causes_of, counted_cut, refused_why, dropped_why, kept_why, why_number, why_of, causes_left}

abbrev worked : List ℕ
worked = 0 ∷ 3 ∷ 0 ∷ 3 ∷ 0 ∷ 3003 ∷ 6 ∷ 10 ∷ 6006 ∷ 4 ∷ 3003 ∷ 4004 ∷ []

-- what is told, and the places afterwards, three of them with 7 before
abbrev Tells : (S E : ℕ) → Why → List ℕ → Type 0
Tells S E w ks = (why_of worked 30000 0 S E 3 ≡ w) × (causes_left worked 30000 0 S E (7 ∷ 7 ∷ 7 ∷ []) ≡ ks)

record Rows : Type 0 where
  -- the first segment has ended (2) and the second not begun (3)
  dropped : Tells 12 20 dropped_why (2 ∷ 3 ∷ 7 ∷ [])
  -- both start at or after its end
  at_zero : Tells 0 0 dropped_why (3 ∷ 3 ∷ 7 ∷ [])
  -- kept, and no cause is written: the end is cut by 7500 − 3003 ticks, the start by 6006 − 6000
  end_cut : Tells 5 25 (kept_why 0 0 4497) (7 ∷ 7 ∷ 7 ∷ [])
  start_cut : Tells 20 21 (kept_why 1 6 0) (7 ∷ 7 ∷ 7 ∷ [])
  shifted : Tells 21 25 (kept_why 1 0 0) (7 ∷ 7 ∷ 7 ∷ [])
  turned : Tells 7 5 (kept_why 0 0 0) (7 ∷ 7 ∷ 7 ∷ [])
  -- one place for two segments, though the caption would be kept; T comes first
  one_place : why_of worked 30000 0 21 25 1 ≡ refused_why 16
  timescale_first : why_of worked 0 3 21 25 1 ≡ refused_why 15

rows : Rows
unfolding why_of why_number causes_left causes_of cause_parts counted_cut put ◌or_else◌ fault_unless timescale_bad kind_bad units_of ticks_of map_bad any_bad segment_bad end_bad segments_of find_from meets_parts
rows =
    record {
      dropped = (refl, refl);
      at_zero = (refl, refl);
      end_cut = (refl, refl);
      start_cut = (refl, refl);
      shifted = (refl, refl);
      turned = (refl, refl);
      one_place = refl;
      timescale_first = refl;
    }

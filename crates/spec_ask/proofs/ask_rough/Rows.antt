-- Worked answers by computation, through document 01's worked map, which keeps source ticks 0 to 3003 and 6006 to 10010.
use mathlib.Core.Path.{◌≡◌, refl}
use mathlib.Core.List.{List, [], ◌∷◌}
use Prim.Native.Nat.{ℕ}
use Rattle.spec_base.specs.base.Refusal.{◌or_else◌, fault_unless}
use Rattle.spec_map.specs.segment.Segment.{end_bad, segment_bad, any_bad, map_bad, segments_of}
use Rattle.spec_caption.specs.caption_fate.Hit.{meets_parts, find_from}
use Rattle.spec_ask.specs.declared.ask_rough.Judged.{Judged}
use Rattle.spec_ask.specs.declared.ask_rough.Judged.TheVariants.{Refused, SurelyKept, SurelyDropped, Unsure}
use Rattle.spec_ask.specs.ask_rough.Rough.{kept_at, judged, rough_number, rough_of, told_of}

abbrev worked : List ℕ
worked = 0 ∷ 3 ∷ 0 ∷ 3 ∷ 0 ∷ 3003 ∷ 6 ∷ 10 ∷ 6006 ∷ 4 ∷ 3003 ∷ 4004 ∷ []

abbrev Judges : (a₁ a₂ b₁ b₂ : ℕ) → Judged → Type 0
Judges a₁ a₂ b₁ b₂ j = rough_of worked a₁ a₂ b₁ b₂ ≡ j

record Rows : Type 0 where
  -- a start up to 3002 is kept by the first segment; 3003 is its end
  kept : Judges 0 3002 1 9 SurelyKept
  start_on_the_end : Judges 0 3003 1 9 Unsure
  -- between the two; an end of 6007 is past the start of the second
  between : Judges 3003 6000 3003 6006 SurelyDropped
  end_past_the_start : Judges 3003 6000 3003 6007 Unsure
  -- kept at every choice, by one segment or by the other
  by_either : Judges 2000 6500 6007 7000 SurelyKept
  -- up to 2^64 − 1; and a start after its end is a choice too
  any_ticks : Judges 0 18446744073709551615 0 18446744073709551615 Unsure
  reversed : Judges 7 7 5 5 SurelyKept
  -- a lower bound above its upper bound; the map comes before it
  start_turned : Judges 5 4 0 9 (Refused 16)
  end_turned : Judges 0 0 1 0 (Refused 16)
  map_first : rough_of (0 ∷ []) 5 4 1 0 ≡ Refused 15

rows : Rows
unfolding rough_of rough_number ◌or_else◌ fault_unless map_bad any_bad segment_bad end_bad segments_of judged kept_at find_from meets_parts
rows =
    record {
      kept = refl;
      start_on_the_end = refl;
      between = refl;
      end_past_the_start = refl;
      by_either = refl;
      any_ticks = refl;
      reversed = refl;
      start_turned = refl;
      end_turned = refl;
      map_first = refl;
    }

-- the three answers as they are told; a refusal leaves what stood there
told : told_of SurelyDropped 7 ∷ told_of SurelyKept 7 ∷ told_of Unsure 7 ∷ told_of (Refused 15) 7 ∷ [] ≡ 0 ∷ 1 ∷ 2 ∷ 7 ∷ []
told = refl

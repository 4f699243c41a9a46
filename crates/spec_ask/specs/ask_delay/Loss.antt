-- Request 2.14. What captions lose under a delay, the delay that loses least among those tried, and how far off it can be. Captions are flat numbers,
-- start and end in units.
use Rattle.std.specs.Prelude.{Bool, true, false, ◌&&◌, cond, not, List, [], ◌∷◌, ℕ, zero, suc, ◌-◌, ◌/◌, ◌%◌, ◌≤◌, ◌<◌, min, ltb, leb, eqb, length, ℤ, Option, Some, None}
use Rattle.spec_base.specs.base.Limits.{most_units}
use Rattle.spec_base.specs.base.Refusal.{◌or_else◌, fault_unless}
use Rattle.spec_time.specs.caption_time.Kind.{kind_bad, units_of}
use Rattle.spec_time.specs.caption_time.Convert.{ticks_of, timescale_bad}
use Rattle.spec_map.specs.declared.segment.Segment.{Segment}
use Rattle.spec_map.specs.segment.Segment.{map_bad}
use Rattle.spec_caption.specs.declared.caption_fate.Config.{Config}
use Rattle.spec_caption.specs.caption_fate.Fates.{Fate, passed, dropped, shifted, clipped, fate_of}
use Rattle.spec_ask.specs.ask_delay.Delay.{delayed_of, delay_of}

abbrev pub most_tries : ℕ
most_tries = 12001

abbrev pub most_captions : ℕ
most_captions = 4096

-- ---- one caption
abbrev pub whole : Fate → Bool
whole passed = false
whole dropped = false
whole (shifted s e) = true
whole (clipped s e) = false

-- a length that exceeds every segment's duration
unfoldable pub exceeds_all : (length : ℕ) → List Segment → Bool
exceeds_all n [] = true
exceeds_all n (x ∷ xs) = ltb x.duration n && exceeds_all n xs

abbrev pub count_lost : Bool → ℕ → ℕ
count_lost true n = suc n
count_lost false n = n

module _ (c : Config) (m : List Segment) where
  -- lost under a delay: either time falls below zero, or it is clipped or dropped
  abbrev pub lost_at : Option ℕ → Option ℕ → Bool
  lost_at None e = true
  lost_at (Some s) None = true
  lost_at (Some s) (Some e) = not (whole (fate_of c m s e))

  unfoldable pub lost_under : ℤ → (S E : ℕ) → Bool
  lost_under d S E = lost_at (delayed_of S d) (delayed_of E d)

  -- no delay can save it: end > start, and its length in ticks, rounded down, exceeds every segment's duration
  unfoldable pub too_long : (S E : ℕ) → Bool
  too_long S E = ltb S E && exceeds_all (ticks_of c.timescale (units_of c.kind) (E - S)) m

  -- ---- all captions
  unfoldable pub loss_of : ℤ → (captions : List ℕ) → ℕ
  loss_of d [] = 0
  loss_of d (S ∷ []) = 0
  loss_of d (S ∷ E ∷ r) = count_lost (lost_under d S E) (loss_of d r)

  unfoldable pub floor_of : (captions : List ℕ) → ℕ
  floor_of [] = 0
  floor_of (S ∷ []) = 0
  floor_of (S ∷ E ∷ r) = count_lost (too_long S E) (floor_of r)

  -- ---- the tries 0 to k: the place of the first that loses least
  unfoldable pub best_try : (captions : List ℕ) → (k : ℕ) → ℕ
  best_try cs zero = 0
  best_try cs (suc k) = cond (ltb (loss_of (delay_of (suc k)) cs) (loss_of (delay_of (best_try cs k)) cs)) (suc k) (best_try cs k)

  -- in plain words: among `tries` delays
  pub record Least (cs : List ℕ) (tries place : ℕ) : Type 0 where
    pub tried : place < tries
    pub least : (k : ℕ) → k < tries → loss_of (delay_of place) cs ≤ loss_of (delay_of k) cs
    pub first : (k : ℕ) → k < place → loss_of (delay_of place) cs < loss_of (delay_of k) cs

-- how many delays are tried
unfoldable pub tried_of : (budget : ℕ) → ℕ
tried_of budget = min budget most_tries

-- ---- the refusals: 15 for T or the map; 29 for budget 0 or too many captions; 16 for the kind, half a caption, or a time above 2^36
unfoldable pub any_late : List ℕ → Bool
any_late [] = false
any_late (t ∷ ts) = cond (ltb most_units t) true (any_late ts)

unfoldable pub delay_number : (map : List ℕ) → (T kind : ℕ) → (captions : List ℕ) → (budget : ℕ) → ℕ
delay_number m T kind cs budget =
    fault_unless (not (timescale_bad T)) 15 or_else
    fault_unless (not (map_bad m)) 15 or_else
    fault_unless (leb 1 budget) 29 or_else
    fault_unless (leb (length cs / 2) most_captions) 29 or_else
    fault_unless (not (kind_bad kind)) 16 or_else
    fault_unless (eqb (length cs % 2) 0) 16 or_else
    fault_unless (not (any_late cs)) 16

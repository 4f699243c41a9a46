-- Request 2.8. The fate of a caption and the reason: the segment that is met first, which ends were cut and by how many ticks; or, of a dropped one, why
-- each segment is not met.
use Rattle.std.specs.Prelude.{◌≡◌, cond, not, List, [], ◌∷◌, ℕ, zero, suc, ◌+◌, ◌-◌, ◌/◌, ◌≤◌, ◌<◌, leb, eqb, length, take}
use Rattle.spec_base.specs.base.Limits.{most_units}
use Rattle.spec_base.specs.base.Refusal.{◌or_else◌, fault_unless}
use Rattle.spec_base.specs.base.Put.{put}
use Rattle.spec_time.specs.caption_time.Kind.{kind_bad, units_of}
use Rattle.spec_time.specs.caption_time.Convert.{ticks_of, timescale_bad}
use Rattle.spec_map.specs.declared.segment.Segment.{Segment}
use Rattle.spec_map.specs.segment.Segment.{source_of, source_end, segments_of, map_bad}
use Rattle.spec_caption.specs.declared.caption_fate.Counted.{Counted}
use Rattle.spec_caption.specs.declared.caption_fate.Counted.TheVariants.{Nothing, Passed, Dropped, Shifted, Clipped}
use Rattle.spec_caption.specs.caption_fate.Hit.{Found, miss, hit, find_hit}
use Rattle.spec_caption.specs.caption_fate.Fates.{FirstMet}
use Rattle.spec_ask.specs.declared.ask_reason.Why.{Why}

-- ---- why a segment is not met by a caption of ticks a to b, the first that applies: no length (1), it ends at or before the start (2), it starts at or
-- after the end (3); 0 where it is met
unfoldable pub cause_parts : (source duration a b : ℕ) → ℕ
cause_parts q d a b = cond (eqb d 0) 1 (cond (leb (q + d) a) 2 (cond (leb b q) 3 0))

unfoldable pub causes_of : List Segment → (a b : ℕ) → List ℕ
causes_of [] a b = []
causes_of (x ∷ xs) a b = cause_parts (source_of x) x.duration a b ∷ causes_of xs a b

-- in plain words
abbrev pub Fails : Segment → (a b cause : ℕ) → Type 0
Fails x a b zero = ⊥
Fails x a b (suc zero) = x.duration ≡ 0
Fails x a b (suc (suc zero)) = (0 < x.duration) × (source_end x ≤ a)
Fails x a b (suc (suc (suc zero))) = (0 < x.duration) × (a < source_end x) × (b ≤ source_of x)
Fails x a b (suc (suc (suc (suc k)))) = ⊥

-- every segment fails for its stated cause
abbrev pub AllFail : List Segment → (a b : ℕ) → List ℕ → Type 0
AllFail [] a b [] = Unit {0}
AllFail [] a b (k ∷ ks) = ⊥
AllFail (x ∷ xs) a b [] = ⊥
AllFail (x ∷ xs) a b (k ∷ ks) = Fails x a b k × AllFail xs a b ks

-- the named segment is met and none earlier is; s ticks of the caption lie before it and e behind it
pub record TrueHit (m : List Segment) (a b place s e : ℕ) : Type 0 where
  pub segment : Segment
  pub first : FirstMet m a b segment
  pub named : length first.earlier ≡ place
  pub start_cut : s ≡ source_of segment - a
  pub end_cut : e ≡ b - source_end segment

-- what is told of a caption of ticks a to b, and the places for causes afterwards, are the true reason
abbrev pub TrueReason : List Segment → (a b : ℕ) → (fate : Counted) → (place s e : ℕ) → (causes : List ℕ) → Type 0
TrueReason m a b Nothing place s e ks = ⊥
TrueReason m a b Passed place s e ks = ⊥
TrueReason m a b Dropped place s e ks = AllFail m a b (take (length m) ks)
TrueReason m a b Shifted place s e ks = TrueHit m a b place s e × (s ≡ 0) × (e ≡ 0)
TrueReason m a b Clipped place s e ks = TrueHit m a b place s e × (0 < s + e)

-- ---- the answer
-- s ticks were cut off at the start and e at the end
unfoldable pub counted_cut : (s e : ℕ) → Counted
counted_cut s e = cond (eqb s 0) (cond (eqb e 0) Shifted Clipped) Clipped

abbrev pub refused_why : ℕ → Why
refused_why k = record { number = k; fate = Nothing; place = 0; start_cut = 0; end_cut = 0 }

abbrev pub dropped_why : Why
dropped_why = record { number = 0; fate = Dropped; place = 0; start_cut = 0; end_cut = 0 }

abbrev pub kept_why : (place s e : ℕ) → Why
kept_why i s e = record { number = 0; fate = counted_cut s e; place = i; start_cut = s; end_cut = e }

abbrev pub why_found : (a b : ℕ) → Found → Why
why_found a b miss = dropped_why
why_found a b (hit i x xs) = kept_why i (source_of x - a) (b - source_end x)

-- 15 for T or the map; 16 for the kind, a time above 2^36, or fewer places than segments
unfoldable pub why_number : (map : List ℕ) → (T kind S E places : ℕ) → ℕ
why_number m T kind S E places =
    fault_unless (not (timescale_bad T)) 15 or_else
    fault_unless (not (map_bad m)) 15 or_else
    fault_unless (not (kind_bad kind)) 16 or_else
    fault_unless (leb S most_units) 16 or_else
    fault_unless (leb E most_units) 16 or_else
    fault_unless (leb (length m / 6) places) 16

unfoldable pub why_of : (map : List ℕ) → (T kind S E places : ℕ) → Why
why_of m T kind S E places =
    cond (eqb (why_number m T kind S E places) 0)
    (why_found (ticks_of T (units_of kind) S) (ticks_of T (units_of kind) E) (find_hit (segments_of m) (ticks_of T (units_of kind) S) (ticks_of T (units_of kind) E)))
    (refused_why (why_number m T kind S E places))

-- ---- the lent places: a dropped caption's causes at their start; otherwise as they were
abbrev pub causes_found : List Segment → (a b : ℕ) → Found → List ℕ → List ℕ
causes_found m a b miss l = put (causes_of m a b) l
causes_found m a b (hit i x xs) l = l

unfoldable pub causes_left : (map : List ℕ) → (T kind S E : ℕ) → List ℕ → List ℕ
causes_left m T kind S E l =
    cond (eqb (why_number m T kind S E (length l)) 0)
    (causes_found (segments_of m) (ticks_of T (units_of kind) S) (ticks_of T (units_of kind) E)
    (find_hit (segments_of m) (ticks_of T (units_of kind) S) (ticks_of T (units_of kind) E)) l)
    l

-- ---- the answer as numbers: the fate of one that is not refused (0 dropped, 1 shifted, 2 clipped)
abbrev pub fate_code : Counted → ℕ
fate_code Nothing = 0
fate_code Passed = 0
fate_code Dropped = 0
fate_code Shifted = 1
fate_code Clipped = 2

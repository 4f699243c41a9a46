-- Request 2.11. A start between two ticks and an end between two ticks, ends included: is the caption kept at every choice, dropped at every choice, or
-- kept at one and dropped at another.
use Rattle.std.specs.Prelude.{◌≡◌, Bool, true, false, cond, not, List, ℕ, ◌≤◌, leb, eqb}
use Rattle.spec_base.specs.base.Refusal.{◌or_else◌, fault_unless}
use Rattle.spec_map.specs.declared.segment.Segment.{Segment}
use Rattle.spec_map.specs.segment.Segment.{segments_of, map_bad}
use Rattle.spec_caption.specs.caption_fate.Hit.{Found, miss, hit, find_hit}
use Rattle.spec_caption.specs.caption_fate.Fates.{Fate, passed, dropped, shifted, clipped, FirstMet}
use Rattle.spec_ask.specs.declared.ask_rough.Judged.{Judged}
use Rattle.spec_ask.specs.declared.ask_rough.Judged.TheVariants.{Refused, SurelyKept, SurelyDropped, Unsure}

-- a caption of ticks a to b is kept: some segment is met
abbrev pub found : Found → Bool
found miss = false
found (hit i x xs) = true

unfoldable pub kept_at : List Segment → (a b : ℕ) → Bool
kept_at m a b = found (find_hit m a b)

-- the same in plain words: a segment of the map is the first one met
pub record MeetsOne (m : List Segment) (a b : ℕ) : Type 0 where
  pub segment : Segment
  pub first : FirstMet m a b segment

-- ---- what each answer means: ticks a from a₁ to a₂ and b from b₁ to b₂
abbrev pub AtEvery : List Segment → (a₁ a₂ b₁ b₂ : ℕ) → Bool → Type 0
AtEvery m a₁ a₂ b₁ b₂ kept = (a b : ℕ) → a₁ ≤ a → a ≤ a₂ → b₁ ≤ b → b ≤ b₂ → kept_at m a b ≡ kept

-- one choice with that fate
pub record AtOne (m : List Segment) (a₁ a₂ b₁ b₂ : ℕ) (kept : Bool) : Type 0 where
  pub start : ℕ
  pub stop : ℕ
  pub start_low : a₁ ≤ start
  pub start_high : start ≤ a₂
  pub stop_low : b₁ ≤ stop
  pub stop_high : stop ≤ b₂
  pub fate : kept_at m start stop ≡ kept

abbrev pub Means : List Segment → (a₁ a₂ b₁ b₂ : ℕ) → Judged → Type 0
Means m a₁ a₂ b₁ b₂ (Refused k) = ⊥
Means m a₁ a₂ b₁ b₂ SurelyKept = AtEvery m a₁ a₂ b₁ b₂ true
Means m a₁ a₂ b₁ b₂ SurelyDropped = AtEvery m a₁ a₂ b₁ b₂ false
Means m a₁ a₂ b₁ b₂ Unsure = AtOne m a₁ a₂ b₁ b₂ true × AtOne m a₁ a₂ b₁ b₂ false

-- an answer that means what it says, and the only one that does
pub record Only (m : List Segment) (a₁ a₂ b₁ b₂ : ℕ) (j : Judged) : Type 0 where
  pub means : Means m a₁ a₂ b₁ b₂ j
  pub only : (k : Judged) → Means m a₁ a₂ b₁ b₂ k → k ≡ j

-- ---- the answer: the shortest caption decides "surely kept", the longest "surely dropped"
unfoldable pub judged : (short long : Bool) → Judged
judged s l = cond s SurelyKept (cond l Unsure SurelyDropped)

-- 15 for the map, 16 for a lower bound above its upper bound
unfoldable pub rough_number : (map : List ℕ) → (a₁ a₂ b₁ b₂ : ℕ) → ℕ
rough_number m a₁ a₂ b₁ b₂ = fault_unless (not (map_bad m)) 15 or_else fault_unless (leb a₁ a₂) 16 or_else fault_unless (leb b₁ b₂) 16

unfoldable pub rough_of : (map : List ℕ) → (a₁ a₂ b₁ b₂ : ℕ) → Judged
rough_of m a₁ a₂ b₁ b₂ =
    cond (eqb (rough_number m a₁ a₂ b₁ b₂) 0)
    (judged (kept_at (segments_of m) a₂ b₁) (kept_at (segments_of m) a₁ b₂))
    (Refused (rough_number m a₁ a₂ b₁ b₂))

-- where each range holds a single tick: the answer to a caption that has that fate
abbrev pub JudgedAs : Fate → Judged → Type 0
JudgedAs passed j = ⊥
JudgedAs dropped j = j ≡ SurelyDropped
JudgedAs (shifted s e) j = j ≡ SurelyKept
JudgedAs (clipped s e) j = j ≡ SurelyKept

-- ---- document 01's number of an answer, and its value: 0 surely dropped, 1 surely kept, 2 unsure; a refusal has none and leaves what stood there
abbrev pub number_of : Judged → ℕ
number_of (Refused k) = k
number_of SurelyKept = 0
number_of SurelyDropped = 0
number_of Unsure = 0

abbrev pub told_of : Judged → (before : ℕ) → ℕ
told_of (Refused k) n = n
told_of SurelyKept n = 1
told_of SurelyDropped n = 0
told_of Unsure n = 2

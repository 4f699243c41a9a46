-- Document 01: "Where an answer is an enum, there is a definition that gives this paper's number and values for each of its cases." Each premise here is the contract of the
-- functions named; what follows is their number and values, at every input. (`json_values::plain_value` has its own: `plain_number_lem`, `plain_values_lem` in spec_json/proofs/json/NumberLaws.)
use Rattle.std.specs.Prelude.{◌≡◌, ◌⊎◌, Bool, ◌&&◌, cond, List, [], ◌∷◌, ℕ, ◌*◌, ◌<◌, eqb, leb, ltb, length, Option, Result}
use Rattle.spec_text.specs.text.Number.{digits, value_from, natural, unsigned, number, number_fault, number_values}
use Rattle.spec_time.specs.declared.caption_stamp.Stamp.{Stamp}
use Rattle.spec_time.specs.caption_time.Kind.{units_of}
use Rattle.spec_time.specs.caption_stamp.Read.{time_in, time_number, time_units, time_mark}
use Rattle.spec_sheet.specs.declared.sheet.Head.{Head}
use Rattle.spec_sheet.specs.sheet_frames.Frames.{timescale_of, frames_of, rate_num_of, rate_den_of}
use Rattle.spec_sheet.specs.sheet.Sheet.{sheet_number, sheet_of, number_of, values_of}
use Rattle.spec_map.specs.declared.segment.Segment.{Segment}
use Rattle.spec_map.specs.segment.Segment.{source_of, output_start_of, end_bad}
use Rattle.spec_caption.specs.declared.caption_fate.Met.{Met}
use Rattle.spec_caption.specs.declared.caption_fate.Config.{Config}
use Rattle.spec_caption.specs.declared.caption_fate.Decision.{Decision}
use Rattle.spec_time.specs.caption_time.Convert.{ticks_within, start_within, end_within}
use Rattle.spec_caption.specs.caption_fate.Hit.{Found, miss, hit, find_hit, hit_of, met_of}
use Rattle.spec_caption.specs.caption_fate.Lost.{lost_rule}
use Rattle.spec_caption.specs.caption_fate.Decide.{retimed_by, decide_in}
use Rattle.spec_caption.specs.caption_fate.Cases.{Case, told, hit_case, decision_case}

-- one or more digits, the value at most `most`
abbrev pub is_natural : (most : ℕ) → List ℕ → Bool
is_natural most s = ltb 0 (length s) && (digits s && leb (value_from 0 s) most)

-- k is the number of a bad one: 3 in a trim list, 22 in a time
pub record SaysNumber (k most : ℕ) (s : List ℕ) (r : Option ℕ) : Type 0 where
  pub number : number_fault k r ≡ cond (is_natural most s) 0 k
  pub values : number_values r ≡ cond (is_natural most s) (value_from 0 s ∷ []) []

-- 0 with units below 10,000 hours, or 22 and no value
abbrev pub SaysTime : (kind : ℕ) → Option Stamp → Type 0
SaysTime kind r = ((time_number r ≡ 0) × (time_units r < 36000000 * units_of kind)) ⊎ ((time_number r ≡ 22) × ((time_units r ≡ 0) × (time_mark r ≡ 0)))

pub record SaysSheet (s : List ℕ) (lent : ℕ) (r : Result Head ℕ) : Type 0 where
  pub number : number_of r ≡ sheet_number s lent
  pub values : values_of r ≡ cond (eqb (sheet_number s lent) 0) (timescale_of s ∷ frames_of s ∷ rate_num_of s ∷ rate_den_of s ∷ []) []

-- the first segment that is met: its place, source start, output start and duration
abbrev pub found_case : Found → Case
found_case miss = told 0 []
found_case (hit i x xs) = told 0 (i ∷ source_of x ∷ output_start_of x ∷ x.duration ∷ [])

-- dropped where none is met; 15 where that one ends past the tick limit; else the units written
abbrev pub decided_case : Config → (a b : ℕ) → Found → Case
decided_case c a b miss = told 0 []
decided_case c a b (hit i x xs) =
    cond (end_bad (source_of x) x.duration) (told 15 [])
    (cond (end_bad (output_start_of x) x.duration) (told 15 [])
    (told 0
    ((retimed_by (start_within c.kind c.timescale) (end_within c.kind c.timescale) a b (lost_rule xs a b) (met_of i x)).start
    ∷ (retimed_by (start_within c.kind c.timescale) (end_within c.kind c.timescale) a b (lost_rule xs a b) (met_of i x)).stop ∷ [])))

pub record Enums : Type 0 where
  -- text::digits_to, text::number_to
  pub digits_to : (k most : ℕ) (s : List ℕ) (r : Option ℕ) → r ≡ natural most s → SaysNumber k most s r
  pub number_to : (k most : ℕ) (s : List ℕ) (r : Option ℕ) → r ≡ number most s → SaysNumber k most (unsigned s) r
  -- stamp::read_time
  pub read_time : (kind : ℕ) (s : List ℕ) (r : Option Stamp) → r ≡ time_in kind s → SaysTime kind r
  -- sheet::check: r is its answer with the number of its refusal, `answer_of` (`told_sheet` and `held_sheet` of sheet/proofs/AnswerLaws say it of the answer itself)
  pub check : (s : List ℕ) (lent : ℕ) (r : Result Head ℕ) → r ≡ sheet_of s lent → SaysSheet s lent r
  -- event::find_hit, segments::find_hit
  pub found_hit : (m : List Segment) (a b : ℕ) (r : Option Met) → r ≡ hit_of (find_hit m a b) → hit_case r ≡ found_case (find_hit m a b)
  -- event::decide
  pub decide : (c : Config) (m : List Segment) (S E : ℕ) (r : Decision) → r ≡ decide_in c m S E
      → decision_case r
      ≡ decided_case c (ticks_within c.kind c.timescale S) (ticks_within c.kind c.timescale E)
      (find_hit m (ticks_within c.kind c.timescale S) (ticks_within c.kind c.timescale E))

-- Document 02, 2.10: "For every list of feeds and finishes with parkings at any point between them, the number of every call, joined output, outcome
-- and counts are those without parking, and under mark 2 the warnings." `UnderTwo`: by the plain reader, and by any run of the same calls without parkings.
-- "captions decided earlier keep their warnings, later ones use 2.7's": `UnderOne`, a session that another house parked with mark 1.
use Rattle.std.specs.Prelude.{◌≡◌, List, ◌++◌, ℕ, length}
use Rattle.spec_caption.specs.caption_fate.Lost.{Rule, lost_next, lost_later}
use Rattle.spec_caption.specs.caption_fate.Says.{Part}
use Rattle.spec_caption.specs.caption_fate.Emit.{output_of}
use Rattle.spec_caption.specs.caption_fate.Warns.{warns_by}
use Rattle.spec_map.specs.segment.Segment.{segments_of}
use Rattle.spec_machine.specs.session_counts.Counts.{counts_of}
use Rattle.spec_machine.specs.session_counts.Session.{emitted}
use Rattle.spec_machine.specs.session_counts.Calls.{Proper}
use Rattle.spec_session.specs.declared.session.Opened.{Opened}
use Rattle.spec_session.specs.session.SessionCalls.{OpenAnswered}
use Rattle.spec_parking.specs.declared.parking.TakenUp.{TakenUp}
use Rattle.spec_parking.specs.parking.Parked.{parked_of}
use Rattle.spec_parking.specs.parking.Parkings.{TakesUp}
use Rattle.promise.specs.Demand.{heard, said_in, Demand}
use Rattle.promise.specs.Promise.{config_of}
use Rattle.promise.specs.Runs.{Made, calls_of, Ran, outcome, last_of}
use Rattle.spec_runs.specs.parkruns.Steps.{Step, Stepped, made_in, AllKept, outcome_of, RanBy, warned_all, written_all, numbers_all}

-- ---- one rule for lost parts throughout, with parkings of ours and of houses with either mark
pub record TwoKept (kind T : ℕ) (m : List ℕ) (o : Opened) (xs : List Step) : Type 0 where
  -- no parking is refused, nor the taking up
  pub parked : AllKept xs
  -- all that demand 3 says of the calls alone
  pub demand : Demand (config_of kind T) m (calls_of (made_in xs)) (outcome_of o.session xs)
  -- and what a run of the same calls without parkings gave
  pub without : (cs : List Made) → calls_of cs ≡ calls_of (made_in xs) → Ran o.session cs → outcome_of o.session xs ≡ outcome o.session cs

abbrev pub UnderTwo : Type 0
UnderTwo =
    (kind T : ℕ) (m : List ℕ) (o : Opened) → OpenAnswered kind T m o → o.number ≡ 0
    → (xs : List Step) → Proper m (calls_of (made_in xs)) → Stepped o.session xs → TwoKept kind T m o xs

-- ---- mark 1: calls of a house with another rule for a lost part, its session parked with mark 1, and our steps after taking it up
pub record OneKept (theirs ours : Rule) (kind T : ℕ) (m : List ℕ) (cs : List Made) (t : TakenUp) (xs : List Step) : Type 0 where
  pub up : t.number ≡ 0
  pub parked : AllKept xs
  pub numbers : numbers_all cs ++ (outcome_of t.session xs).numbers ≡ (heard (config_of kind T) (calls_of cs ++ calls_of (made_in xs))).numbers
  pub output : written_all cs ++ (outcome_of t.session xs).output ≡ output_of (emitted (config_of kind T) m (said_in (config_of kind T) (calls_of cs ++ calls_of (made_in xs))).parts)
  pub end_outcome : (outcome_of t.session xs).session.outcome ≡ (said_in (config_of kind T) (calls_of cs ++ calls_of (made_in xs))).fault
  pub counts : (outcome_of t.session xs).session.counts ≡ counts_of (emitted (config_of kind T) m (said_in (config_of kind T) (calls_of cs ++ calls_of (made_in xs))).parts)
  pub taken : (outcome_of t.session xs).session.taken ≡ length (heard (config_of kind T) (calls_of cs ++ calls_of (made_in xs))).reader.text
  pub ended : (outcome_of t.session xs).session.ended ≡ (heard (config_of kind T) (calls_of cs ++ calls_of (made_in xs))).reader.ended
  -- captions decided before the parking keep their warnings, by their rule; later ones have ours
  pub later : List Part
  pub all_parts : (said_in (config_of kind T) (calls_of cs ++ calls_of (made_in xs))).parts ≡ (said_in (config_of kind T) (calls_of cs)).parts ++ later
  pub warnings : warned_all cs ++ (outcome_of t.session xs).warnings
      ≡ warns_by theirs (config_of kind T) (segments_of m) (said_in (config_of kind T) (calls_of cs)).parts ++ warns_by ours (config_of kind T) (segments_of m) later

abbrev pub UnderRules : (theirs ours : Rule) → Type 0
UnderRules theirs ours =
    (kind T : ℕ) (m : List ℕ) (o : Opened) → OpenAnswered kind T m o → o.number ≡ 0
    → (cs : List Made) → Proper m (calls_of cs) → RanBy theirs o.session cs
    → (t : TakenUp) → TakesUp (parked_of 1 (last_of o.session cs)) t
    → (xs : List Step) → Proper m (calls_of (made_in xs)) → Stepped t.session xs → OneKept theirs ours kind T m cs t xs

-- 01's rule before the parking, 2.7's after it
abbrev pub UnderOne : Type 0
UnderOne = UnderRules lost_next lost_later
